-- The tree of a Via value that is stamped.
use Rattle.std.proofs.Common.{◌≡◌, ℕ, ◌==◌, Bool, true, false, List, [], ◌∷◌, ◌++◌, length, refl, sym, ap, ◌∙◌, arith, append_assoc, Option, Some, None, inl, inr, option_map}
use Rattle.std.specs.Prelude.{codes, IfSome}
use Rattle.std.specs.List.{AllByRecursion}
use Rattle.std.specs.Str.{str_eq_ignore_ascii_case}
use Rattle.std.proofs.lemmas.Bool.{cases_Bool, ne_eqb, false≢true}
use Rattle.std.proofs.lemmas.List.{append-nil}
use Rattle.std.proofs.lemmas.List.Concat.{flat_map-append}
use Rattle.sip_words.specs.Bytes.{◌and◌, has}
use Rattle.sip_words.specs.declared.bytes.Class.TheVariants.{Value}
use Rattle.sip_words.specs.declared.separators.Surroundings.TheVariants.{Field}
use Rattle.sip_words.specs.Grammar.{Blank, blank, lws, separator, ValueTree, Bare, Quoted, value, IsWord, ParamTree, assigned, param, IsParam, params, named_tree}
use Rattle.sip_words.proofs.Pieces.{same_length}
use Rattle.sip_fields.specs.Parts.{Tail, Last, More, tail, IsTail}
use Rattle.sip_fields.specs.ViaGrammar.{ViaTree, HasToken, IsVia}
use Rattle.sip_scan.specs.Grammar.{IsLine}
use Rattle.sip_laws.proofs.Shift.{tree_value}
use Rattle.sip_laws.proofs.Stamped.{walk, fate, still, is_received, is_rport}
use Rattle.sip_laws.proofs.Folded.{Folded, folded_nothing, folded_both, folded_line, folded_lws, cut_folded}
use Rattle.sip_laws.proofs.Endings.{ends_param}

-- the value of a parameter of a name
abbrev pub value_named : List ℕ → List ParamTree → Option (Option ValueTree)
value_named name ps = option_map (λ (p : ParamTree). p.value) (named_tree name ps)

abbrev pub Token_in : Option (Option ValueTree) → Type 0
Token_in o = IfSome o HasToken

abbrev pub value_in : Option (Option ValueTree) → Option (List ℕ)
value_in None = None
value_in (Some v) = option_map value v

pub tree_value_is : (o : Option ParamTree) → tree_value o ≡ value_in (option_map (λ (p : ParamTree). p.value) o)
tree_value_is None = refl
tree_value_is (Some p) = refl

pub token_in : (o : Option ParamTree) → IfSome o (λ p. HasToken p.value) → Token_in (option_map (λ (p : ParamTree). p.value) o)
token_in None h = tt
token_in (Some p) h = h

pub token_out : (o : Option ParamTree) → Token_in (option_map (λ (p : ParamTree). p.value) o) → IfSome o (λ p. HasToken p.value)
token_out None h = tt
token_out (Some p) h = h

-- parameters that spell a text, and blanks behind them
pub record Spells (name : List ℕ) (ps : List ParamTree) (text : List ℕ) : Type 0 where
  pub trees : List ParamTree
  pub left : List Blank
  pub text_is : text ≡ params trees ++ lws left
  pub are : AllByRecursion (IsParam Field) trees
  pub same : value_named name trees ≡ value_named name ps

-- blanks before a parameter
padded : List Blank → ParamTree → Option ValueTree → ParamTree
padded bs p v = record { semicolon = record { before = bs ++ p.semicolon.before; after = p.semicolon.after }; name = p.name; value = v }

lws_both : (xs bs : List Blank) → lws (xs ++ bs) ≡ lws xs ++ lws bs
lws_both xs bs = flat_map-append blank xs bs

pieces : (a b c d e : List ℕ) → (a ++ b) ++ c ≡ d → ((a ++ b) ++ (c ++ e)) ≡ d ++ e
pieces a b c d e h = sym (append_assoc (a ++ b) c e) ∙ ap (λ (t : List ℕ). t ++ e) h

pad_pieces : (bs a s n v : List ℕ) → ((bs ++ a) ++ s) ++ (n ++ v) ≡ bs ++ ((a ++ s) ++ (n ++ v))
pad_pieces bs a s n v = simp append_assoc

padded_text : (bs : List Blank) (p : ParamTree) (v : Option ValueTree) → param (padded bs p v) ≡ lws bs ++ (separator 59 p.semicolon ++ (p.name ++ assigned v))
unfolding padded
padded_text bs p v =
    ap (λ (t : List ℕ). (t ++ (59 ∷ lws p.semicolon.after)) ++ (p.name ++ assigned v)) (lws_both bs p.semicolon.before)
    ∙ pad_pieces (lws bs) (lws p.semicolon.before) (59 ∷ lws p.semicolon.after) p.name (assigned v)

is_padded : (bs : List Blank) (p : ParamTree) (v : Option ValueTree) → IsParam Field p → IfSome v (λ x. Rattle.sip_words.specs.Grammar.IsValue Field x) → IsParam Field (padded bs p v)
unfolding padded
is_padded bs p v is value = record { semicolon = record { before = tt; after = tt }; name = is.name; value = value }

named_padded : (name : List ℕ) (bs : List Blank) (p : ParamTree) (v : Option ValueTree) (qs ps : List ParamTree) → (str_eq_ignore_ascii_case p.name name ≡ true → v ≡ p.value) → value_named name qs ≡ value_named name ps → value_named name (padded bs p v ∷ qs) ≡ value_named name (p ∷ ps)
unfolding padded
named_padded name bs p v qs ps same rest = elim (cases_Bool (str_eq_ignore_ascii_case p.name name)) [
  | inl y ↦ let e = same y in rw (y, e) refl
  | inr n ↦ rw n rest
]

named_gone : (name : List ℕ) (p : ParamTree) (qs ps : List ParamTree) → str_eq_ignore_ascii_case p.name name ≡ false → value_named name qs ≡ value_named name ps → value_named name qs ≡ value_named name (p ∷ ps)
named_gone name p qs ps off rest = rw off rest

-- a name is no other name
no_other : (p : ParamTree) (a b : List ℕ) → (length a == length b) ≡ false → str_eq_ignore_ascii_case p.name a ≡ true → str_eq_ignore_ascii_case p.name b ≡ false
no_other p a b differ h = elim (cases_Bool (str_eq_ignore_ascii_case p.name b)) [
  | inl y ↦
      let same : length a ≡ length b = sym (same_length p.name a h) ∙ same_length p.name b y in
      absurd (false≢true (sym differ ∙ Rattle.std.proofs.lemmas.Bool.eq-eqb (length a) (length b) same))
  | inr n ↦ n
]

both : (x y : Bool) → (x and y) ≡ true → y ≡ true
both true y h = h
both false y h = absurd (cc)

one_more : (bs w e l : List ℕ) → (bs ++ w) ++ (e ++ l) ≡ ((bs ++ w) ++ e) ++ l
one_more bs w e l = sym (append_assoc (bs ++ w) e l)

keeps : (name : List ℕ) (bs : List Blank) (p : ParamTree) (ps : List ParamTree) (v : Option ValueTree) (own rest : List ℕ) → own ≡ separator 59 p.semicolon ++ (p.name ++ assigned v) → IsParam Field p → IfSome v (λ x. Rattle.sip_words.specs.Grammar.IsValue Field x) → (str_eq_ignore_ascii_case p.name name ≡ true → v ≡ p.value) → Spells name ps rest → Spells name (p ∷ ps) (lws bs ++ (own ++ rest))
keeps name bs p ps v own rest e is value same s = record {
  trees = padded bs p v ∷ s.trees;
  left = s.left;
  text_is = sym (append_assoc (lws bs) own rest) ∙ ap (λ (t : List ℕ). (lws bs ++ t) ++ rest) e ∙ ap (λ (t : List ℕ). t ++ rest) (sym (padded_text bs p v)) ∙ ap (λ (t : List ℕ). param (padded bs p v) ++ t) s.text_is ∙ sym (append_assoc (param (padded bs p v)) (params s.trees) (lws s.left));
  are = (is_padded bs p v is value, s.are);
  same = named_padded name bs p v s.trees ps same s.same;
}

goes : (name : List ℕ) (bs : List Blank) (p : ParamTree) (ps : List ParamTree) (rest : List ℕ) → str_eq_ignore_ascii_case p.name name ≡ false → Spells name ps (lws (bs ++ p.semicolon.before) ++ rest) → Spells name (p ∷ ps) (lws bs ++ (lws p.semicolon.before ++ rest))
goes name bs p ps rest off s = record {
  trees = s.trees;
  left = s.left;
  text_is = sym (append_assoc (lws bs) (lws p.semicolon.before) rest) ∙ ap (λ (t : List ℕ). t ++ rest) (sym (lws_both bs p.semicolon.before)) ∙ s.text_is;
  are = s.are;
  same = named_gone name p s.trees ps off s.same;
}

filled_text : (s n w : List ℕ) → (s ++ (n ++ [])) ++ (61 ∷ w) ≡ s ++ (n ++ (61 ∷ w))
filled_text s n w = simp (append_assoc, append-nil)

-- the walked parameters are parameters
pub spells : (c r : Bool) (d : List ℕ) (ps : List ParamTree) (bs : List Blank) → IsWord Value d → AllByRecursion (IsParam Field) ps → Spells (codes "branch") ps (lws bs ++ walk c r d ps)
spells c r d [] bs word are = record { trees = []; left = bs; text_is = append-nil (lws bs); are = tt; same = refl }
spells c r d (p ∷ ps) bs word are = by_fate (c and is_received p) (r and is_rport p) p.value refl refl refl (λ xs. spells (still (is_received p) c) (still (is_rport p) r) d ps xs word are.1)
  where
    by_fate : (x y : Bool) (v : Option ValueTree) → (c and is_received p) ≡ x → (r and is_rport p) ≡ y → p.value ≡ v → ((xs : List Blank) → Spells (codes "branch") ps (lws xs ++ walk (still (is_received p) c) (still (is_rport p) r) d ps)) → Spells (codes "branch") (p ∷ ps) (lws bs ++ (fate x y v d p ++ walk (still (is_received p) c) (still (is_rport p) r) d ps))
    by_fate true y (Some v) xe ye e rest =
        goes (codes "branch") bs p ps _ (no_other p (codes "received") (codes "branch") refl (both c (is_received p) xe)) (rest (bs ++ p.semicolon.before))
    by_fate false y (Some v) xe ye e rest = keeps (codes "branch") bs p ps p.value (param p) _ refl are.0 are.0.value (λ h. refl) (rest [])
    by_fate x true None xe ye e rest =
        let off = no_other p (codes "rport") (codes "branch") refl (both r (is_rport p) ye) in
        let own : param p ++ (codes "=" ++ d) ≡ separator 59 p.semicolon ++ (p.name ++ assigned (Some (Bare d))) = ap (λ (o : Option ValueTree). (separator 59 p.semicolon ++ (p.name ++ assigned o)) ++ (61 ∷ d)) e ∙ filled_text (separator 59 p.semicolon) p.name d in
        keeps (codes "branch") bs p ps (Some (Bare d)) (param p ++ (codes "=" ++ d)) _ own are.0 word (λ h. absurd (false≢true (sym off ∙ h))) (rest [])
    by_fate x false None xe ye e rest = keeps (codes "branch") bs p ps p.value (param p) _ refl are.0 are.0.value (λ h. refl) (rest [])

-- and a text of lines where they were
folded_fate : (x y : Bool) (v : Option ValueTree) (d : List ℕ) (p : ParamTree) → Folded (param p) → IsLine (61 ∷ d) → Folded (fate x y v d p)
folded_fate true y (Some v) d p f line = folded_lws p.semicolon.before
folded_fate false y (Some v) d p f line = f
folded_fate x true None d p f line = folded_both f (folded_line (61 ∷ d) line)
folded_fate x false None d p f line = f

pub folded_walk : (c r : Bool) (d : List ℕ) (ps : List ParamTree) → AllByRecursion (IsParam Field) ps → IsLine (61 ∷ d) → Folded (params ps) → Folded (walk c r d ps)
folded_walk c r d [] are line f = folded_nothing
folded_walk c r d (p ∷ ps) are line f =
    let two = cut_folded (param p) (params ps) (ends_param [] p are.0) f in
    folded_both (folded_fate (c and is_received p) (r and is_rport p) p.value d p two.front line) (folded_walk (still (is_received p) c) (still (is_rport p) r) d ps are.1 line two.back)

-- ;received=ADDRESS behind the parameters
received_param : List Blank → List ℕ → ParamTree
received_param bs address = record { semicolon = record { before = bs; after = [] }; name = codes "received"; value = Some (Bare address) }

received_text : (bs : List Blank) (address : List ℕ) → param (received_param bs address) ≡ lws bs ++ (codes ";received=" ++ address)
unfolding received_param
received_text bs address = append_assoc (lws bs) (59 ∷ []) (codes "received" ++ (61 ∷ address))

is_received_param : (bs : List Blank) (address : List ℕ) → IsWord Value address → IsParam Field (received_param bs address)
unfolding received_param has
is_received_param bs address word = record { semicolon = record { before = tt; after = tt }; name = record { some = omega arith; all = (refl, (refl, (refl, (refl, (refl, (refl, (refl, (refl, tt)))))))) }; value = word }

all_one_more : (ps : List ParamTree) (p : ParamTree) → AllByRecursion (IsParam Field) ps → IsParam Field p → AllByRecursion (IsParam Field) (ps ++ p ∷ [])
all_one_more [] p a is = (is, tt)
all_one_more (q ∷ ps) p a is = (a.0, all_one_more ps p a.1 is)

named_one_more : (name : List ℕ) (ps : List ParamTree) (p : ParamTree) → str_eq_ignore_ascii_case p.name name ≡ false → value_named name (ps ++ p ∷ []) ≡ value_named name ps
named_one_more name [] p off = rw off refl
named_one_more name (q ∷ ps) p off = elim (cases_Bool (str_eq_ignore_ascii_case q.name name)) [ inl y ↦ rw y refl | inr n ↦ rw n (named_one_more name ps p off) ]

-- blanks before what stands behind the value
pub pad_tail : List Blank → Tail → Tail
pad_tail bs (Last xs) = Last (bs ++ xs)
pad_tail bs (More m rest) = More (record { before = bs ++ m.before; after = m.after }) rest

pad_tail_text : (bs : List Blank) (x : Tail) → tail (pad_tail bs x) ≡ lws bs ++ tail x
unfolding pad_tail
pad_tail_text bs (Last xs) = lws_both bs xs
pad_tail_text bs (More m rest) = ap (λ (t : List ℕ). (t ++ (44 ∷ lws m.after)) ++ rest) (lws_both bs m.before) ∙ tail_pieces (lws bs) (lws m.before) (44 ∷ lws m.after) rest
  where
    tail_pieces : (a b c d : List ℕ) → ((a ++ b) ++ c) ++ d ≡ a ++ ((b ++ c) ++ d)
    tail_pieces a b c d = simp append_assoc

is_pad_tail : (bs : List Blank) (x : Tail) → IsTail x → IsTail (pad_tail bs x)
unfolding pad_tail
is_pad_tail bs (Last xs) h = tt
is_pad_tail bs (More m rest) h = h

-- the rest behind a comma stays
abbrev pub rest_of : Tail → Option (List ℕ)
rest_of (Last xs) = None
rest_of (More m rest) = Some rest

pad_tail_rest : (bs : List Blank) (x : Tail) → rest_of (pad_tail bs x) ≡ rest_of x
unfolding pad_tail
pad_tail_rest bs (Last xs) = refl
pad_tail_rest bs (More m rest) = refl

-- the parameters and what stands behind the value, where an address is put in or none
pub record Ended (t : ViaTree) (text : List ℕ) : Type 0 where
  pub trees : List ParamTree
  pub ending : Tail
  pub text_is : text ≡ params trees ++ tail ending
  pub are : AllByRecursion (IsParam Field) trees
  pub same : value_named (codes "branch") trees ≡ value_named (codes "branch") t.params
  pub is_ending : IsTail ending
  pub rest : rest_of ending ≡ rest_of t.tail

abbrev pub received_line : Bool → List ℕ → List ℕ
received_line true address = codes ";received=" ++ address
received_line false address = []

with_pieces : (a b c d : List ℕ) → (a ++ b) ++ (c ++ d) ≡ (a ++ (b ++ c)) ++ d
with_pieces a b c d = simp append_assoc

received_is_no_branch : (bs : List Blank) (address : List ℕ) → str_eq_ignore_ascii_case (received_param bs address).name (codes "branch") ≡ false
unfolding received_param
received_is_no_branch bs address = refl

pub ended : (t : ViaTree) (d address : List ℕ) (wants : Bool) → IsVia t → IsWord Value d → IsWord Value address → Ended t (walk true true d t.params ++ (received_line wants address ++ tail t.tail))
ended t d address true is word there =
    let s = spells true true d t.params [] word is.params in
    let q = received_param s.left address in
    let all : params (s.trees ++ q ∷ []) ≡ params s.trees ++ (lws s.left ++ (codes ";received=" ++ address)) = flat_map-append param s.trees (q ∷ []) ∙ ap (λ (x : List ℕ). params s.trees ++ x) (append-nil (param q) ∙ received_text s.left address) in
    record {
      trees = s.trees ++ q ∷ [];
      ending = t.tail;
      text_is = ap (λ (x : List ℕ). x ++ ((codes ";received=" ++ address) ++ tail t.tail)) s.text_is ∙ with_pieces (params s.trees) (lws s.left) (codes ";received=" ++ address) (tail t.tail) ∙ ap (λ (x : List ℕ). x ++ tail t.tail) (sym all);
      are = all_one_more s.trees q s.are (is_received_param s.left address there);
      same = named_one_more (codes "branch") s.trees q (received_is_no_branch s.left address) ∙ s.same;
      is_ending = is.tail;
      rest = refl;
    }
ended t d address false is word there =
    let s = spells true true d t.params [] word is.params in
    record {
      trees = s.trees;
      ending = pad_tail s.left t.tail;
      text_is = ap (λ (x : List ℕ). x ++ tail t.tail) s.text_is ∙ append_assoc (params s.trees) (lws s.left) (tail t.tail) ∙ ap (λ (x : List ℕ). params s.trees ++ x) (sym (pad_tail_text s.left t.tail));
      are = s.are;
      same = s.same;
      is_ending = is_pad_tail s.left t.tail is.tail;
      rest = pad_tail_rest s.left t.tail;
    }
