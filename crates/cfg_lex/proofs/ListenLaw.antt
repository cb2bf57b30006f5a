-- LISTEN: the relation and the reading function agree.
use Rattle.std.proofs.Common.{◌≡◌, ℕ, suc, ◌+◌, Bool, true, false, List, [], ◌∷◌, ◌++◌, length, take, drop, nat_le, refl, subst, sym, ap, ◌∙◌, arith, Option, Some, None, cond, append_assoc, length-append}
use Rattle.std.specs.Prelude.{nat_lt, codes}
use Rattle.std.specs.Int.{w32, from_be_bytes}
use Rattle.std.specs.Str.{bytes_eq}
use Rattle.std.specs.List.{prefix_len}
use Rattle.std.specs.Char.{is_ascii_digit}
use Rattle.std.specs.Str.Parse.{digits_value}
use Rattle.std.proofs.lemmas.Bool.{lt-ltb, ltb-true, and_parts, le-leb}
use Rattle.std.proofs.lemmas.List.{take-append-drop, take_at, drop-drop}
use Rattle.std.proofs.lemmas.Option.{cond_some, same_Some, none-some}
use Rattle.std.proofs.lemmas.Slice.Eq.{bytes_eq-Decides}
use Rattle.sip_words.specs.declared.bytes.Class.TheVariants as class
use Rattle.sip_words.specs.Bytes.{has}
use Rattle.sip_words.specs.Words.{word_end, stands, byte_end, run_end}
use Rattle.sip_words.specs.Numbers.{number_at}
use Rattle.sip_words.proofs.Digits.{word_is}
use Rattle.sip_words.proofs.Steps.{bind_some}
use Rattle.sip_words.proofs.Pieces.{behind, number_again, stands_at}
use Rattle.sip_words.proofs.Pieces as pieces
use Rattle.sip_words.proofs.Takes.{Takes, number_takes, stands_takes, not_none}
use Rattle.sip_words.specs.Addresses.{octet_at, dot_end, v4_at, port_number_at}
use Rattle.sip_words.specs.ByteNames.{COLON}
use Rattle.sip_fields.specs.Parts.{Numbers, host, IsOctet, AreOctets}
use Rattle.cfg_tree.specs.declared.setting.Listen.{Listen}
use Rattle.cfg_lex.specs.Listens.{begins_udp, listen_address_at, listen_at}
use Rattle.cfg_lex.specs.Tokens.{Ends, IsListenPort, IsListen}
use Rattle.cfg_lex.proofs.RunLaw.{run_taken}

after : {text : List ℕ} {i j k : ℕ} {v w : List ℕ} → Takes text i j v → Takes text j k w → Takes text i k (v ++ w)
after {text} {i} {j} {k} {v} {w} a b = record {
  whole = a.whole ∙ ap (λ xs. v ++ xs) b.whole ∙ sym (append_assoc v w (drop k text));
  end = omega (arith, a.end, b.end, length-append v w);
}

octet_again : (text : List ℕ) (i : ℕ) (w rest : List ℕ) → drop i text ≡ w ++ rest → IsOctet w → pieces.Ends class.Digit rest → octet_at text i ≡ Some (digits_value 10 w, i + length w)
unfolding octet_at
octet_again text i w rest h is ends = let high : nat_lt (digits_value 10 w) 256 ≡ true = lt-ltb _ _ is.high in rw (number_again 3 text i w rest h is.word ends is.few, high) refl

octet_takes : (text : List ℕ) (i : ℕ) (r : ℕ × ℕ) → octet_at text i ≡ Some r → (w : List ℕ) × Takes text i r.1 w × IsOctet w × (r.0 ≡ digits_value 10 w)
unfolding octet_at
octet_takes text i r h =
    let n = bind_some (number_at 3 text i) _ r h in
    let c = cond_some (nat_lt n.0.0 256) n.0 r n.2 in
    let w = number_takes 3 text i n.0 n.1 in
    let value : n.0.0 ≡ r.0 = ap (λ (x : ℕ × ℕ). x.0) c.1 in
    let end : n.0.1 ≡ r.1 = ap (λ (x : ℕ × ℕ). x.1) c.1 in
    let below = ltb-true n.0.0 256 c.0 in
    (w.0, subst (λ k. Takes text i k w.0) end w.1, record { word = w.2; few = w.3; high = omega (arith, below, w.4) }, sym value ∙ w.4)

dot_again : (text : List ℕ) (i : ℕ) (rest : List ℕ) → drop i text ≡ 46 ∷ rest → dot_end text i ≡ Some (i + 1)
unfolding dot_end
dot_again text i rest h = rw (stands_at 46 text i rest h) refl

dot_takes : (text : List ℕ) (i j : ℕ) → dot_end text i ≡ Some j → Takes text i j (46 ∷ [])
unfolding dot_end
dot_takes text i j h = let c = cond_some (stands 46 text i) (i + 1) j h in subst (λ k. Takes text i k (46 ∷ [])) c.1 (stands_takes 46 text i c.0)

colon_again : (text : List ℕ) (i : ℕ) (rest : List ℕ) → drop i text ≡ 58 ∷ rest → byte_end COLON text i ≡ Some (i + 1)
unfolding byte_end
colon_again text i rest h = rw (stands_at 58 text i rest h) refl

colon_takes : (text : List ℕ) (i j : ℕ) → byte_end COLON text i ≡ Some j → Takes text i j (58 ∷ [])
unfolding byte_end
colon_takes text i j h = let c = cond_some (stands 58 text i) (i + 1) j h in subst (λ k. Takes text i k (58 ∷ [])) c.1 (stands_takes 58 text i c.0)

port_again : (text : List ℕ) (i : ℕ) (w rest : List ℕ) → drop i text ≡ w ++ rest → IsListenPort w → pieces.Ends class.Digit rest → port_number_at text i ≡ Some (digits_value 10 w, i + length w)
unfolding port_number_at
port_again text i w rest h is ends =
    let low : nat_lt 0 (digits_value 10 w) ≡ true = lt-ltb _ _ is.low in
    let high : nat_lt (digits_value 10 w) 65536 ≡ true = lt-ltb _ _ is.high in
    rw (number_again 5 text i w rest h is.word ends is.few, low, high) refl

cond_inner : {A : Type 0} (b : Bool) (o : Option A) (y : A) → cond b o None ≡ Some y → (b ≡ true) × (o ≡ Some y)
cond_inner true o y k = (refl, k)
cond_inner false o y k = absurd (none-some y k)

port_takes : (text : List ℕ) (i : ℕ) (r : ℕ × ℕ) → port_number_at text i ≡ Some r → (w : List ℕ) × Takes text i r.1 w × IsListenPort w × (r.0 ≡ digits_value 10 w)
unfolding port_number_at
port_takes text i r h =
    let n = bind_some (number_at 5 text i) _ r h in
    let low = cond_inner (nat_lt 0 n.0.0) _ r n.2 in
    let c = cond_some (nat_lt n.0.0 65536) n.0 r low.1 in
    let w = number_takes 5 text i n.0 n.1 in
    let value : n.0.0 ≡ r.0 = ap (λ (x : ℕ × ℕ). x.0) c.1 in
    let end : n.0.1 ≡ r.1 = ap (λ (x : ℕ × ℕ). x.1) c.1 in
    let is_low = ltb-true 0 n.0.0 low.0 in
    let is_high = ltb-true n.0.0 65536 c.0 in (
      w.0,
      subst (λ k. Takes text i k w.0) end w.1,
      record { word = w.2; few = w.3; low = omega (arith, is_low, w.4); high = omega (arith, is_high, w.4) },
      sym value ∙ w.4,
    )

dot_ends : has class.Digit 46 ≡ false
unfolding has
dot_ends = refl

colon_ends : has class.Digit 58 ≡ false
unfolding has
colon_ends = refl

digit_has : (b : ℕ) → has class.Digit b ≡ is_ascii_digit b
unfolding has
digit_has b = refl

ends_again : (rest : List ℕ) → Ends is_ascii_digit rest → pieces.Ends class.Digit rest
ends_again [] h = tt
ends_again (b ∷ rest) h = digit_has b ∙ h

-- the address that these write
abbrev pub ip_of : List ℕ → List ℕ → List ℕ → List ℕ → ℕ
ip_of a b c d = from_be_bytes w32 (digits_value 10 a ∷ digits_value 10 b ∷ digits_value 10 c ∷ digits_value 10 d ∷ [])

dotted : (a b c d r : List ℕ) → (a ++ (46 ∷ (b ++ (46 ∷ (c ++ (46 ∷ d)))))) ++ r ≡ a ++ (46 ∷ (b ++ (46 ∷ (c ++ (46 ∷ (d ++ r))))))
dotted a b c d r = simp append_assoc

dotted_length : (a b c d : List ℕ) → length (a ++ (46 ∷ (b ++ (46 ∷ (c ++ (46 ∷ d)))))) ≡ length a + suc (length b + suc (length c + suc (length d)))
dotted_length a b c d = simp length-append

v4_again : (text : List ℕ) (i : ℕ) (a b c d rest : List ℕ) → drop i text ≡ host (Numbers a b c d) ++ rest → AreOctets a b c d → pieces.Ends class.Digit rest → v4_at text i ≡ Some (ip_of a b c d, i + length (host (Numbers a b c d)))
unfolding v4_at
v4_again text i a b c d rest h are ends =
    let whole = h ∙ dotted a b c d rest in
    let one = octet_again text i a _ whole are.first dot_ends in
    let at_1 = behind text i a _ whole in
    let dot_1 = dot_again text _ _ at_1 in
    let in_1 = behind text _ (46 ∷ []) _ at_1 in
    let two = octet_again text _ b _ in_1 are.second dot_ends in
    let at_2 = behind text _ b _ in_1 in
    let dot_2 = dot_again text _ _ at_2 in
    let in_2 = behind text _ (46 ∷ []) _ at_2 in
    let three = octet_again text _ c _ in_2 are.third dot_ends in
    let at_3 = behind text _ c _ in_2 in
    let dot_3 = dot_again text _ _ at_3 in
    let in_3 = behind text _ (46 ∷ []) _ at_3 in
    let four = octet_again text _ d rest in_3 are.fourth ends in
    rw (one, dot_1, two, dot_2, three, dot_3, four) (ap (λ (n : ℕ). Some (ip_of a b c d, n)) (omega (arith, dotted_length a b c d)))

record TakenNumbers (text : List ℕ) (i ip j : ℕ) : Type 0 where
  a : List ℕ
  b : List ℕ
  c : List ℕ
  d : List ℕ
  takes : Takes text i j (host (Numbers a b c d))
  are : AreOctets a b c d
  value : ip ≡ ip_of a b c d

v4_takes : (text : List ℕ) (i : ℕ) (r : ℕ × ℕ) → v4_at text i ≡ Some r → TakenNumbers text i r.0 r.1
unfolding v4_at
v4_takes text i r h =
    let one = bind_some (octet_at text i) _ r h in
    let dot_1 = bind_some (dot_end text one.0.1) _ r one.2 in
    let two = bind_some (octet_at text dot_1.0) _ r dot_1.2 in
    let dot_2 = bind_some (dot_end text two.0.1) _ r two.2 in
    let three = bind_some (octet_at text dot_2.0) _ r dot_2.2 in
    let dot_3 = bind_some (dot_end text three.0.1) _ r three.2 in
    let four = bind_some (octet_at text dot_3.0) _ r dot_3.2 in
    let a = octet_takes text i one.0 one.1 in
    let b = octet_takes text dot_1.0 two.0 two.1 in
    let c = octet_takes text dot_2.0 three.0 three.1 in
    let d = octet_takes text dot_3.0 four.0 four.1 in
    let p = dot_takes text one.0.1 dot_1.0 dot_1.1 in
    let q = dot_takes text two.0.1 dot_2.0 dot_2.1 in
    let s = dot_takes text three.0.1 dot_3.0 dot_3.1 in
    let same = same_Some _ _ four.2 in
    let end : four.0.1 ≡ r.1 = ap (λ (x : ℕ × ℕ). x.1) same in
    let ip : from_be_bytes w32 (one.0.0 ∷ two.0.0 ∷ three.0.0 ∷ four.0.0 ∷ []) ≡ r.0 = ap (λ (x : ℕ × ℕ). x.0) same in
    let all : Takes text i four.0.1 (host (Numbers a.0 b.0 c.0 d.0)) = after a.1 (after p (after b.1 (after q (after c.1 (after s d.1))))) in
    record {
      a = a.0;
      b = b.0;
      c = c.0;
      d = d.0;
      takes = subst (λ k. Takes text i k (host (Numbers a.0 b.0 c.0 d.0))) end all;
      are = record { first = a.2; second = b.2; third = c.2; fourth = d.2 };
      value = sym ip ∙ four_of _ _ _ _ _ _ _ _ a.3 b.3 c.3 d.3;
    }
  where
    four_of : (a b c d e f g h : ℕ) → a ≡ e → b ≡ f → c ≡ g → d ≡ h → from_be_bytes w32 (a ∷ b ∷ c ∷ d ∷ []) ≡ from_be_bytes w32 (e ∷ f ∷ g ∷ h ∷ [])
    four_of a b c d e f g h p q r s = cc

-- ---- all of it

abbrev listen_of : List ℕ → List ℕ → List ℕ → List ℕ → List ℕ → Listen
listen_of a b c d port = record { ip = ip_of a b c d; port = digits_value 10 port }

udp_begins : (xs : List ℕ) → begins_udp (117 ∷ 100 ∷ 112 ∷ 58 ∷ xs) ≡ true
unfolding begins_udp
udp_begins xs = let le : nat_le 4 (length (117 ∷ 100 ∷ 112 ∷ 58 ∷ xs)) ≡ true = le-leb _ _ (omega arith) in rw le refl

address_again : (text : List ℕ) (i : ℕ) (a b c d port rest : List ℕ) → drop i text ≡ (host (Numbers a b c d) ++ 58 ∷ port) ++ rest → AreOctets a b c d →
    IsListenPort port → pieces.Ends class.Digit rest → listen_address_at text i ≡ Some (listen_of a b c d port, i + length (host (Numbers a b c d) ++ 58 ∷ port))
unfolding listen_address_at
address_again text i a b c d port rest h are is ends =
    let whole = h ∙ append_assoc (host (Numbers a b c d)) (58 ∷ port) rest in
    let ip = v4_again text i a b c d (58 ∷ port ++ rest) whole are colon_ends in
    let at_colon = behind text i (host (Numbers a b c d)) _ whole in
    let colon = colon_again text _ _ at_colon in
    let at_port = behind text _ (58 ∷ []) _ at_colon in
    let p = port_again text _ port rest at_port is ends in
    rw (ip, colon, p) (ap (λ (n : ℕ). Some (listen_of a b c d port, n)) (omega (arith, length-append (host (Numbers a b c d)) (58 ∷ port))))

read_listen : (text : List ℕ) → begins_udp text ≡ true → listen_at text ≡ listen_address_at text 4
unfolding listen_at
read_listen text t = rw t refl

spelled_again : (a b c d port rest : List ℕ) → AreOctets a b c d → IsListenPort port → pieces.Ends class.Digit rest →
    listen_at ((codes "udp:" ++ (host (Numbers a b c d) ++ 58 ∷ port)) ++ rest) ≡
    Some (listen_of a b c d port, length (codes "udp:" ++ (host (Numbers a b c d) ++ 58 ∷ port)))
spelled_again a b c d port rest are is ends =
    read_listen _ (udp_begins ((host (Numbers a b c d) ++ 58 ∷ port) ++ rest))
    ∙ address_again (117 ∷ 100 ∷ 112 ∷ 58 ∷ ((host (Numbers a b c d) ++ 58 ∷ port) ++ rest)) 4 a b c d port rest refl are is ends
    ∙ ap (λ (n : ℕ). Some (listen_of a b c d port, n)) (omega arith)

pub listen_again : (w rest : List ℕ) (l : Listen) → IsListen w rest l → listen_at (w ++ rest) ≡ Some (l, length w)
listen_again w rest l is =
    ap (λ (ws : List ℕ). listen_at (ws ++ rest)) is.whole ∙ spelled_again is.a is.b is.c is.d is.port rest is.octets is.is_port (ends_again rest is.ends)
    ∙ ap (λ (ws : List ℕ). Some (listen_of is.a is.b is.c is.d is.port, length ws)) (sym is.whole)
    ∙ ap (λ (k : Listen). Some (k, length w)) (sym is.value)

ends_taken : (rest : List ℕ) → Ends (has class.Digit) rest → Ends is_ascii_digit rest
ends_taken [] h = tt
ends_taken (b ∷ rest) h = sym (digit_has b) ∙ h

port_ends : (text : List ℕ) (i : ℕ) (r : ℕ × ℕ) → port_number_at text i ≡ Some r → Ends is_ascii_digit (drop r.1 text)
unfolding port_number_at number_at run_end
port_ends text i r h =
    let n = bind_some (number_at 5 text i) _ r h in
    let low = cond_inner (nat_lt 0 n.0.0) _ r n.2 in
    let c = cond_some (nat_lt n.0.0 65536) n.0 r low.1 in
    let e = bind_some (word_end class.Digit text i) _ n.0 n.1 in
    let k = not_none _ _ _ e.2 in
    let w = word_is class.Digit text i e.0 e.1 in
    let m : ℕ = prefix_len (has class.Digit) (drop i text) in
    let last : e.0 ≡ n.0.1 = ap (λ (x : ℕ × ℕ). x.1) k.1 in
    let same : n.0.1 ≡ r.1 = ap (λ (x : ℕ × ℕ). x.1) c.1 in
    let end : i + m ≡ r.1 = sym w.0 ∙ last ∙ same in
    let tail : drop m (drop i text) ≡ drop r.1 text = drop-drop m i text ∙ ap (λ j. drop j text) end in
    ends_taken (drop r.1 text) (subst (λ (xs : List ℕ). Ends (has class.Digit) xs) tail (run_taken (has class.Digit) (drop i text)).ends)

udp_taken : (text : List ℕ) → begins_udp text ≡ true → Takes text 0 4 (codes "udp:")
unfolding begins_udp
udp_taken text t =
    let p = and_parts (nat_le 4 (length text)) (bytes_eq (take 4 text) (codes "udp:")) t in
    let is : take 4 text ≡ codes "udp:" = (bytes_eq-Decides (take 4 text) (codes "udp:")).0 p.1 in
    record { whole = sym (take-append-drop 4 text) ∙ ap (λ (xs : List ℕ). xs ++ drop 4 text) is; end = refl }

address_takes : (text : List ℕ) (i : ℕ) (r : Listen × ℕ) → Takes text 0 i (codes "udp:") → listen_address_at text i ≡ Some r →
    IsListen (take r.1 text) (drop r.1 text) r.0
unfolding listen_address_at
address_takes text i r udp h =
    let ip = bind_some (v4_at text i) _ r h in
    let colon = bind_some (byte_end COLON text ip.0.1) _ r ip.2 in
    let port = bind_some (port_number_at text colon.0) _ r colon.2 in
    let v = v4_takes text i ip.0 ip.1 in
    let c = colon_takes text ip.0.1 colon.0 colon.1 in
    let p = port_takes text colon.0 port.0 port.1 in
    let same = same_Some _ _ port.2 in
    let end : port.0.1 ≡ r.1 = ap (λ (x : Listen × ℕ). x.1) same in
    let value : (let l : Listen = record { ip = ip.0.0; port = port.0.0 } in l) ≡ r.0 = ap (λ (x : Listen × ℕ). x.0) same in
    let all : Takes text 0 port.0.1 (codes "udp:" ++ (host (Numbers v.a v.b v.c v.d) ++ 58 ∷ p.0)) = after udp (after v.takes (after c p.1)) in
    let len : length (codes "udp:" ++ (host (Numbers v.a v.b v.c v.d) ++ 58 ∷ p.0)) ≡ r.1 = omega (arith, all.end, end) in
    let whole : text ≡ (codes "udp:" ++ (host (Numbers v.a v.b v.c v.d) ++ 58 ∷ p.0)) ++ drop port.0.1 text = all.whole in
    record {
      a = v.a;
      b = v.b;
      c = v.c;
      d = v.d;
      port = p.0;
      whole = ap (λ (xs : List ℕ). take r.1 xs) whole ∙ take_at _ (drop port.0.1 text) r.1 len;
      octets = v.are;
      is_port = p.2;
      ends = subst (λ j. Ends is_ascii_digit (drop j text)) end (port_ends text colon.0 port.0 port.1);
      value = sym value ∙ made _ _ _ _ v.value p.3;
    }
  where
    made : (a b c d : ℕ) → a ≡ b → c ≡ d → (let l : Listen = record { ip = a; port = c } in l) ≡ (let l : Listen = record { ip = b; port = d } in l)
    made a b c d e h = ap (λ (n : ℕ). let l : Listen = record { ip = n; port = c } in l) e ∙ ap (λ (n : ℕ). let l : Listen = record { ip = b; port = n } in l) h

pub listen_takes : (text : List ℕ) (r : Listen × ℕ) → listen_at text ≡ Some r → IsListen (take r.1 text) (drop r.1 text) r.0
unfolding listen_at
listen_takes text r h =
    let c = cond_inner (begins_udp text) _ r h in
    address_takes text 4 r (udp_taken text c.0) c.1
