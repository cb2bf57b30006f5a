-- A request line with another URI: it is a line of SIP, and it is read.
use Rattle.std.proofs.Common.{◌≡◌, ℕ, ◌+◌, ◌-◌, ◌≤◌, ◌==◌, Bool, true, false, List, [], ◌∷◌, ◌++◌, length, drop, map, refl, sym, ap, ◌∙◌, arith, append_assoc, length-append, length-drop, Some, inl, inr}
use Rattle.std.specs.Prelude.{codes, not, reverse}
use Rattle.std.specs.List.{after_last, suffix_len, prefix_len}
use Rattle.std.specs.Char.{to_ascii_lowercase}
use Rattle.std.specs.Cmp.Lexicographic.{same_text}
use Rattle.std.proofs.lemmas.List.{append-nil, drop_at, reverse-append}
use Rattle.std.proofs.lemmas.Bool.{cases_Bool, eqb-true, eq-eqb}
use Rattle.sip_words.specs.Bytes.{◌or◌, has}
use Rattle.sip_words.specs.declared.bytes.Class.TheVariants.{Token, Visible}
use Rattle.sip_words.specs.Spans.{span}
use Rattle.sip_words.specs.Grammar.{IsWord}
use Rattle.sip_words.proofs.Pieces.{behind, stands_at, word_again, word_at_again, part_is}
use Rattle.sip_scan.specs.Lines.{begins_sip, speaks_sip}
use Rattle.sip_scan.specs.Grammar.{IsLine}
use Rattle.sip_msg.specs.declared.start.Start.TheVariants.{Request}
use Rattle.sip_msg.specs.Start.{behind_space, request_at, start_at}
use Rattle.sip_msg.specs.StartGrammar.{IsVersion}
use Rattle.sip_laws.proofs.StartAgain.{line_both, line_token, line_visible}

-- Method SP Request-URI SP SIP-Version
abbrev pub request_with : List ℕ → List ℕ → List ℕ → List ℕ
request_with method uri version = method ++ (32 ∷ (uri ++ (32 ∷ version)))

all_length : (text : List ℕ) (i : ℕ) (w : List ℕ) → i ≤ length text → drop i text ≡ w → length text ≡ i + length w
all_length text i w le h = let n = ap (λ (x : List ℕ). length x) h in omega (arith, n, length-drop i text)

space_again : (text : List ℕ) (i : ℕ) (rest : List ℕ) → drop i text ≡ 32 ∷ rest → behind_space text i ≡ Some (i + 1)
space_again text i rest h = rw (stands_at 32 text i rest h) refl

pub with_again : (text : List ℕ) (i : ℕ) (method uri version : List ℕ) → i ≤ length text → drop i text ≡ request_with method uri version → IsWord Token method → IsWord Visible uri → IsVersion version → start_at text i ≡ Some (Request (span i (i + length method)) (span (i + length method + 1) (i + length method + 1 + length uri)))
unfolding start_at request_at has
with_again text i method uri version le h is_method is_uri is_version =
    let a = word_again Token text i method _ h is_method refl in
    let at_1 = behind text i method _ h in
    let b = space_again text (i + length method) _ at_1 in
    let at_2 = behind text (i + length method) (32 ∷ []) _ at_1 in
    let c = word_again Visible text (i + length method + 1) uri _ at_2 is_uri refl in
    let at_3 = behind text (i + length method + 1) uri _ at_2 in
    let d = space_again text (i + length method + 1 + length uri) _ at_3 in
    let at_4 = behind text (i + length method + 1 + length uri) (32 ∷ []) version at_3 in
    let e = word_at_again version (codes "SIP/2.0") text (i + length method + 1 + length uri + 1) [] (at_4 ∙ sym (append-nil version)) is_version in
    let whole = all_length text i (request_with method uri version) le h in
    let size : length (request_with method uri version) ≡ length method + (1 + (length uri + (1 + length version))) = omega (arith, length-append method (32 ∷ (uri ++ (32 ∷ version))), length-append uri (32 ∷ version)) in
    let end : (i + length method + 1 + length uri + 1 + length version == length text) ≡ true = eq-eqb (i + length method + 1 + length uri + 1 + length version) (length text) (omega (arith, whole, size)) in
    rw (a, b, c, d, e, end) refl

-- the version is none of SP, and begins with SIP/
no_space : (a n : ℕ) → to_ascii_lowercase a ≡ n → (n == 32) ≡ false → (a == 32) ≡ false
no_space a n e ne = elim (cases_Bool (a == 32)) [
  | inl y ↦ let same = eqb-true a 32 y in absurd (cc (sym ne ∙ ap (λ (x : ℕ). x == 32) (sym e ∙ ap to_ascii_lowercase same)))
  | inr n0 ↦ n0
]

record Seven (w : List ℕ) : Type 0 where
  begins : begins_sip w ≡ true
  last : (front : List ℕ) → after_last (λ b. b == 32) (front ++ (32 ∷ w)) ≡ w

seven_bytes : (a b c d e f g : ℕ) → to_ascii_lowercase a ≡ 115 → to_ascii_lowercase b ≡ 105 → to_ascii_lowercase c ≡ 112 → to_ascii_lowercase d ≡ 47 → to_ascii_lowercase e ≡ 50 → to_ascii_lowercase f ≡ 46 → to_ascii_lowercase g ≡ 48 → Seven (a ∷ b ∷ c ∷ d ∷ e ∷ f ∷ g ∷ [])
unfolding begins_sip
seven_bytes a b c d e f g ae be ce de ee fe ge = record {
  begins = rw (ae, be, ce, de) refl;
  last = λ front.
      let w = a ∷ b ∷ c ∷ d ∷ e ∷ f ∷ g ∷ [] in
      let xs = front ++ (32 ∷ w) in
      let whole : xs ≡ (front ++ 32 ∷ []) ++ w = sym (append_assoc front (32 ∷ []) w) in
      let turned : reverse xs ≡ reverse (32 ∷ w) ++ reverse front = reverse-append front (32 ∷ w) in
      let one = no_space a 115 ae refl in
      let two = no_space b 105 be refl in
      let three = no_space c 112 ce refl in
      let four = no_space d 47 de refl in
      let five = no_space e 50 ee refl in
      let six = no_space f 46 fe refl in
      let last = no_space g 48 ge refl in
      let seven : suffix_len (λ b. not (b == 32)) xs ≡ 7 = ap (λ (t : List ℕ). prefix_len (λ b. not (b == 32)) t) turned ∙ rw (one, two, three, four, five, six, last) refl in
      let long : length (front ++ 32 ∷ []) ≡ length xs - 7 = omega (arith, length-append front (32 ∷ []), length-append front (32 ∷ w)) in
      ap (λ (n : ℕ). drop (length xs - n) xs) seven ∙ ap (λ (t : List ℕ). drop (length xs - 7) t) whole ∙ drop_at (front ++ 32 ∷ []) w (length xs - 7) long;
}

seven_of : (w : List ℕ) → map to_ascii_lowercase w ≡ codes "sip/2.0" → Seven w
seven_of [] h = absurd (cc)
seven_of (a ∷ []) h = absurd (cc)
seven_of (a ∷ b ∷ []) h = absurd (cc)
seven_of (a ∷ b ∷ c ∷ []) h = absurd (cc)
seven_of (a ∷ b ∷ c ∷ d ∷ []) h = absurd (cc)
seven_of (a ∷ b ∷ c ∷ d ∷ e ∷ []) h = absurd (cc)
seven_of (a ∷ b ∷ c ∷ d ∷ e ∷ f ∷ []) h = absurd (cc)
seven_of (a ∷ b ∷ c ∷ d ∷ e ∷ f ∷ g ∷ []) h = seven_bytes a b c d e f g (cc) (cc) (cc) (cc) (cc) (cc) (cc)
seven_of (a ∷ b ∷ c ∷ d ∷ e ∷ f ∷ g ∷ k ∷ w) h = absurd (cc)

version_seven : (w : List ℕ) → IsVersion w → Seven w
version_seven w h = seven_of w (same_text (map to_ascii_lowercase w) (codes "sip/2.0") (sym h))

either : (x y : Bool) → y ≡ true → (x or y) ≡ true
either true y h = refl
either false y h = h

pub with_speaks : (method uri version : List ℕ) → IsVersion version → speaks_sip (request_with method uri version) ≡ true
unfolding speaks_sip
with_speaks method uri version is =
    let s = version_seven version is in
    let whole : request_with method uri version ≡ (method ++ (32 ∷ uri)) ++ (32 ∷ version) = sym (append_assoc method (32 ∷ uri) (32 ∷ version)) in
    either (begins_sip (request_with method uri version)) (begins_sip (after_last (λ b. b == 32) (request_with method uri version))) (ap (λ (x : List ℕ). begins_sip (after_last (λ b. b == 32) x)) whole ∙ ap begins_sip (s.last (method ++ (32 ∷ uri))) ∙ s.begins)

-- the part of a line
line_part : (v w : List ℕ) → IsLine (v ++ w) → IsLine w
line_part [] w a = a
line_part (b ∷ v) w a = line_part v w a.1

pub with_is_line : (method old new version : List ℕ) → IsLine (request_with method old version) → IsWord Token method → IsWord Visible new → IsLine (request_with method new version)
with_is_line method old new version is a c =
    let v = (line_part (32 ∷ old) (32 ∷ version) (line_part method (32 ∷ (old ++ (32 ∷ version))) is)).1 in
    line_both method (32 ∷ (new ++ (32 ∷ version))) (line_token method a) (refl, line_both new (32 ∷ version) (line_visible new c) (refl, v))

-- the method and the URI at their places
pub with_spans : (c : List ℕ) (i : ℕ) (method uri version rest : List ℕ) → drop i c ≡ request_with method uri version ++ rest → (Rattle.sip_build.specs.Parts.part c (span i (i + length method)) ≡ method) × (Rattle.sip_build.specs.Parts.part c (span (i + length method + 1) (i + length method + 1 + length uri)) ≡ uri)
with_spans c i method uri version rest e =
    let at_0 : drop i c ≡ method ++ (32 ∷ ((uri ++ (32 ∷ version)) ++ rest)) = e ∙ append_assoc method (32 ∷ (uri ++ (32 ∷ version))) rest in
    let at_1 = behind c i method _ at_0 in
    let at_2 : drop (i + length method + 1) c ≡ (uri ++ (32 ∷ version)) ++ rest = behind c (i + length method) (32 ∷ []) _ at_1 in
    (part_is c i method _ at_0, part_is c (i + length method + 1) uri _ (at_2 ∙ append_assoc uri (32 ∷ version) rest))
