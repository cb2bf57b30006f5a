-- The name of a module behind its path.
use Rattle.std.proofs.Common.{◌≡◌, ◌⊎◌, ℕ, zero, suc, ◌+◌, ◌==◌, Bool, true, false, not, cond, ◌&&◌, ◌||◌, List, [], ◌∷◌, ◌++◌, take, drop, reverse, refl, sym, ap, ◌∙◌, subst, inl, inr, append_assoc, append-nil, arith}
use Rattle.std.specs.Prelude.{codes}
use Rattle.std.specs.List.{list_all, prefix_len}
use Rattle.std.specs.Str.{bytes_eq}
use Rattle.std.proofs.lemmas.Bool.{false≢true}
use Rattle.std.proofs.lemmas.Bool.Decides.{nat_tests}
use Rattle.std.proofs.lemmas.List.{reverse-append, reverse-reverse}
use Rattle.std.proofs.lemmas.Slice.Eq.{bytes_eq-Decides}
use Rattle.sip_words.specs.ByteNames.{SLASH}
use Rattle.cfg_tree.specs.Settings.{module_names, without_path, is_module}
use Rattle.cfg_laws.specs.Causes.{IsModule, EndsFolder}
use Rattle.cfg_laws.proofs.Telling.{In, in_from_contains, contains_from_in}
use Rattle.cfg_laws.proofs.Blocks.{any_one, one_any, or_parts, or_left, or_right}

abbrev other : ℕ → Bool
other c = not (c == SLASH)

-- what is behind the bytes that are no slash
abbrev Rest : List ℕ → Type 0
Rest xs = (xs ≡ []) ⊎ ((ys : List ℕ) × (xs ≡ SLASH ∷ ys))

rest_step : (b : Bool) (x : ℕ) (xs : List ℕ) (n : ℕ) → (x == SLASH) ≡ b → Rest (drop n xs) → Rest (drop (cond (not b) (1 + n) 0) (x ∷ xs))
rest_step true x xs n is rest = let e : x ≡ SLASH = grind (arith, nat_tests) in inr (xs, ap (λ y. y ∷ xs) e)
rest_step false x xs n is rest = let e : suc n ≡ 1 + n = omega arith in subst (λ k. Rest (drop k (x ∷ xs))) e rest

rest_of : (xs : List ℕ) → Rest (drop (prefix_len other xs) xs)
rest_of [] = inl refl
rest_of (x ∷ xs) = rest_step (x == SLASH) x xs (prefix_len other xs) refl (rest_of xs)

halves : (n : ℕ) (xs : List ℕ) → take n xs ++ drop n xs ≡ xs
halves zero xs = refl
halves (suc n) [] = refl
halves (suc n) (x ∷ xs) = ap (λ l. x ∷ l) (halves n xs)

-- a text is its path, and what is without it
path_of : List ℕ → List ℕ
path_of text = reverse (drop (prefix_len other (reverse text)) (reverse text))

split : (text : List ℕ) → text ≡ path_of text ++ without_path text
unfolding path_of
split text =
    let r = reverse text in
    let n = prefix_len other r in
    sym (reverse-reverse text) ∙ sym (ap reverse (halves n r)) ∙ reverse-append (take n r) (drop n r)

turned : (xs : List ℕ) → Rest xs → EndsFolder (reverse xs)
turned xs (inl e) = inl (ap reverse e)
turned xs (inr (ys, e)) = inr (reverse ys, ap reverse e ∙ reverse-append (SLASH ∷ []) ys)

path_ends : (text : List ℕ) → EndsFolder (path_of text)
unfolding path_of
path_ends text = turned (drop (prefix_len other (reverse text)) (reverse text)) (rest_of (reverse text))

-- ---- it is a module's

abbrev is_named : List ℕ → List ℕ → Bool
is_named u name = bytes_eq u name || bytes_eq u (name ++ codes ".so")

pub module_from : (text : List ℕ) → is_module text ≡ true → IsModule text
module_from text e =
    let one = any_one (is_named (without_path text)) module_names e in
    let there = contains_from_in one.0 module_names one.1 in
    elim (or_parts (bytes_eq (without_path text) one.0) (bytes_eq (without_path text) (one.0 ++ codes ".so")) one.2) [
      | inl t ↦ record {
        path = path_of text;
        name = one.0;
        ending = [];
        whole = split text ∙ ap (λ u. path_of text ++ u) ((bytes_eq-Decides (without_path text) one.0).0 t) ∙ sym (append-nil (path_of text ++ one.0));
        path_is = path_ends text;
        name_is = there;
        ending_is = inl refl;
      }
      | inr t ↦ record {
        path = path_of text;
        name = one.0;
        ending = codes ".so";
        whole = split text ∙ ap (λ u. path_of text ++ u) ((bytes_eq-Decides (without_path text) (one.0 ++ codes ".so")).0 t) ∙ sym (append_assoc (path_of text) one.0 (codes ".so"));
        path_is = path_ends text;
        name_is = there;
        ending_is = inr refl;
      }
    ]

-- ---- and the other way

and_both : (a b : Bool) → (a && b) ≡ true → (a ≡ true) × (b ≡ true)
and_both true b e = (refl, e)
and_both false b e = absurd (false≢true e)

taken_step : (b : Bool) (x : ℕ) (xs rest : List ℕ) (n : ℕ) → b ≡ true → take n xs ≡ rest → take (cond b (1 + n) 0) (x ∷ xs) ≡ x ∷ rest
taken_step true x xs rest n e is = let k : 1 + n ≡ suc n = omega arith in ap (λ m. take m (x ∷ xs)) k ∙ ap (λ l. x ∷ l) is
taken_step false x xs rest n e is = absurd (false≢true e)

-- of bytes that are no slash, before a rest that begins with one, all are taken
taken : (us vs : List ℕ) → list_all other us ≡ true → Rest vs → take (prefix_len other (us ++ vs)) (us ++ vs) ≡ us
taken [] vs all (inl e) = ap (λ xs. take (prefix_len other xs) xs) e
taken [] vs all (inr (ys, e)) = ap (λ xs. take (prefix_len other xs) xs) e
taken (u ∷ us) vs all rest =
    let k = and_both (other u) (list_all other us) all in
    taken_step (other u) u (us ++ vs) us (prefix_len other (us ++ vs)) k.0 (taken us vs k.1 rest)

untaken : (path : List ℕ) → EndsFolder path → Rest (reverse path)
untaken path (inl e) = inl (ap reverse e)
untaken path (inr (folder, e)) = inr (reverse folder, ap reverse e ∙ reverse-append folder (SLASH ∷ []))

without : (path u : List ℕ) → EndsFolder path → list_all other (reverse u) ≡ true → without_path (path ++ u) ≡ u
without path u ends clean =
    let e = reverse-append path u in
    ap (λ r. reverse (take (prefix_len other r) r)) e ∙ ap reverse (taken (reverse u) (reverse path) clean (untaken path ends)) ∙ reverse-reverse u

-- no name of a module has a slash
abbrev is_clean : List ℕ → Bool
is_clean name = list_all other (reverse name) && list_all other (reverse (name ++ codes ".so"))

clean_in : (names : List (List ℕ)) → list_all is_clean names ≡ true → (name : List ℕ) → In name names → is_clean name ≡ true
clean_in [] all name h = absurd h
clean_in (x ∷ xs) all name (inl e) = subst (λ n. is_clean n ≡ true) e (and_both (is_clean x) (list_all is_clean xs) all).0
clean_in (x ∷ xs) all name (inr h) = clean_in xs (and_both (is_clean x) (list_all is_clean xs) all).1 name h

clean : (name : List ℕ) → In name module_names → is_clean name ≡ true
clean name h = clean_in module_names refl name h

named_so : (text path name u : List ℕ) → text ≡ path ++ u → EndsFolder path → list_all other (reverse u) ≡ true → In name module_names → is_named u name ≡ true → is_module text ≡ true
named_so text path name u whole ends c there is =
    let e : without_path text ≡ u = ap without_path whole ∙ without path u ends c in
    one_any (is_named (without_path text)) module_names name there (ap (λ v. is_named v name) e ∙ is)

pub from_module : (text : List ℕ) → IsModule text → is_module text ≡ true
from_module text m =
    let there = in_from_contains m.name module_names m.name_is in
    let c = and_both (list_all other (reverse m.name)) (list_all other (reverse (m.name ++ codes ".so"))) (clean m.name there) in
    elim m.ending_is [
      | inl e ↦ named_so text m.path m.name m.name (m.whole ∙ ap (λ x. m.path ++ m.name ++ x) e ∙ append-nil (m.path ++ m.name)) m.path_is c.0 there
          (or_left (bytes_eq m.name m.name) (bytes_eq m.name (m.name ++ codes ".so")) ((bytes_eq-Decides m.name m.name).1 refl))
      | inr e ↦ named_so text m.path m.name (m.name ++ codes ".so") (m.whole ∙ ap (λ x. m.path ++ m.name ++ x) e ∙ append_assoc m.path m.name (codes ".so")) m.path_is c.1 there
          (or_right (bytes_eq (m.name ++ codes ".so") m.name) (bytes_eq (m.name ++ codes ".so") (m.name ++ codes ".so")) ((bytes_eq-Decides (m.name ++ codes ".so") (m.name ++ codes ".so")).1 refl))
    ]

pub other_module : (text : List ℕ) (b : Bool) → is_module text ≡ b → (IsModule text → ⊥) → b ≡ false
other_module text true e none = absurd (none (module_from text e))
other_module text false e none = refl
