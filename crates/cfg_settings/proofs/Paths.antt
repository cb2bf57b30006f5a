-- A name without its path, byte by byte.
use Rattle.std.proofs.Common.{◌≡◌, ℕ, ◌+◌, ◌-◌, ◌<◌, ◌≤◌, true, false, ◌==◌, List, [], ◌∷◌, ◌++◌, length, get_or, take, drop, reverse, if◌then◌else◌, refl, ◌∙◌, ap, sym, inl, inr, arith}
use Rattle.std.proofs.lemmas.Bool.{cases_Bool}
use Rattle.std.proofs.lemmas.List.{take_more, take_all, take_rest, reverse-append, drop_all, length-take, drop-append-le}
use Rattle.cfg_settings.proofs.Standing.{take_one}
use Rattle.cfg_tree.specs.Variables.{before}
use Rattle.cfg_tree.specs.Settings.{without_path}

-- one byte more
path_more : (front : List ℕ) (c : ℕ) → without_path (front ++ c ∷ []) ≡ (if c == 47 then [] else without_path front ++ c ∷ [])
path_more front c = elim (cases_Bool (c == 47)) [
  | inl t ↦ rw (reverse-append front (c ∷ []), t) refl
  | inr f ↦
      let r = reverse front in
      rw (reverse-append front (c ∷ []), f, take_one (before 47 r) c r) (reverse-append (c ∷ []) (take (before 47 r) r))
]

pub slash_seen : (text : List ℕ) (i : ℕ) → i < length text → (get_or text i 0 == 47) ≡ true → without_path (take (i + 1) text) ≡ drop (i + 1) (take (i + 1) text)
slash_seen text i lt h =
    let t = take_more text i 0 lt in
    let all : drop (i + 1) (take (i + 1) text) ≡ [] = drop_all (i + 1) (take (i + 1) text) (omega (arith, length-take (i + 1) text)) in
    ap without_path t ∙ path_more (take i text) (get_or text i 0) ∙ rw h (sym all)

pub other_seen : (text : List ℕ) (i from : ℕ) → i < length text → (get_or text i 0 == 47) ≡ false → from ≤ i → without_path (take i text) ≡ drop from (take i text) → without_path (take (i + 1) text) ≡ drop from (take (i + 1) text)
other_seen text i from lt h low e =
    let t = take_more text i 0 lt in
    let c = get_or text i 0 in
    let behind : drop from (take (i + 1) text) ≡ drop from (take i text) ++ c ∷ [] = ap (drop from) t ∙ drop-append-le from (take i text) (c ∷ []) (omega (arith, length-take i text)) in
    ap without_path t ∙ path_more (take i text) c ∙ rw h (ap (λ front. front ++ c ∷ []) e ∙ sym behind)

pub all_seen : (text : List ℕ) (i from : ℕ) → length text ≤ i → without_path (take i text) ≡ drop from (take i text) → take (length text - from) (drop from text) ≡ without_path text
all_seen text i from le e = let t = take_all i text le in take_rest text from ∙ sym (rw t at e)
