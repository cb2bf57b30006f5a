-- The code of parts and of expanded texts does what they mean.
use Rattle.std.proofs.Common.{◌≡◌, ℕ, ◌+◌, List, [], ◌∷◌, ◌++◌, length, map, nat_le, true, false, inl, inr, refl, sym, subst, arith, length-append}
use Rattle.std.proofs.lemmas.Bool.{cases_Bool, leb-true, leb-false}
use Rattle.pv_values.specs.declared.value.Val.{Val}
use Rattle.pv_values.specs.declared.value.Val.TheVariants as val
use Rattle.pv_values.specs.Values.{text_of, limited, sum_of, told_value}
use Rattle.cfg_tree.specs.Transformations.{transformed}
use Rattle.cfg_tree.specs.declared.script.TableUse.{TableUse}
use Rattle.cfg_tree.specs.declared.script.Part.{Part}
use Rattle.cfg_tree.specs.declared.script.Part.TheOpen.{Part-F}
use Rattle.cfg_tree.specs.declared.script.Part.TheViews.{roll-Part}
use Rattle.cfg_tree.specs.declared.script.Part.TheFolds.{fold-roll-Part, ind-Part, map-Part}
use Rattle.cfg_tree.specs.Meaning.{State, WithText, WithValues, Valued, item_of, texts_behind, expanded, read_host, part_meaning_step, part_meaning, expansion_of, arguments_behind}
use Rattle.cfg_code.specs.declared.instr.Instr.TheVariants.{Push, Load, LoadCode, Read, ReadItem, Transform, Concat, PushArgument}
use Rattle.cfg_code.specs.Flat.{FlatScript}
use Rattle.cfg_code.specs.declared.machine.Frame.{Frame}
use Rattle.cfg_code.specs.declared.machine.Wait.TheVariants as wait
use Rattle.cfg_code.specs.Code.{Text, concat_text, concats, expansion_text, part_text, part_code, expansion_code, argument_text, arguments_code}
use Rattle.cfg_code.specs.Follows.{HasAt, Behaves}
use Rattle.cfg_code.proofs.Places.{has_front, has_back, run_with, by_act, asked_behind, at_place, Each, Right, change_right}

-- what is put after a text that may be above 8,192 bytes
sum_of_limited : (front : List ℕ) (v : Val) → sum_of (limited front) v ≡ limited (front ++ text_of v)
sum_of_limited front v = elim (cases_Bool (nat_le (length front) 8192)) [
  | inl t ↦ rw t refl
  | inr f ↦
      let g : nat_le (length (front ++ text_of v)) 8192 ≡ false = elim (cases_Bool (nat_le (length (front ++ text_of v)) 8192)) [
        | inl t ↦ absurd (omega (arith, leb-true _ _ t, leb-false _ _ f, length-append front (text_of v)))
        | inr g ↦ g
      ] in
      rw (f, g) refl
]

module _ (loaded : FlatScript) (d : ℕ) where
  abbrev pub RightPart : Text → Valued → Type 0
  RightPart text m = (args : List Val) → Right loaded d args text m

  -- a text on the stack, or Null above 8,192 bytes, and parts that are put after it
  concats_right : (ts : List Text) (ms : List Valued) → Each RightPart ts ms → (args : List Val) (front : List ℕ) (p : ℕ) (stack : List Val) (frames : List Frame) (s : State) (next : WithText) →
      HasAt loaded.code.instrs p (concats ts) →
      ((t : List ℕ) (s : State) → Behaves loaded (run_with args (p + length (concats ts)) (limited t ∷ stack) frames d s) (next t s)) →
      Behaves loaded (run_with args p (limited front ∷ stack) frames d s) (texts_behind front ms next s)
  concats_right [] [] each args front p stack frames s next has k =
      let e : p ≡ p + 0 = omega arith in at_place loaded args _ _ (limited front ∷ stack) frames d s _ e (k front s)
  concats_right [] (m ∷ ms) each args front p stack frames s next has k = absurd each
  concats_right (t ∷ ts) [] each args front p stack frames s next has k = absurd each
  concats_right (t ∷ ts) (m ∷ ms) each args front p stack frames s next has k =
      let code = loaded.code.instrs in
      let a = concat_text t in
      let h = has_front code p a (concats ts) has in
      let at = (has_back code p t (Concat ∷ []) h).0 in
      let one : p + length t + 1 ≡ p + length a = omega (arith, length-append t (Concat ∷ [])) in
      let len : p + length a + length (concats ts) ≡ p + length (a ++ concats ts) = omega (arith, length-append a (concats ts)) in
      each.0 args p (limited front ∷ stack) frames s _ (has_front code p t _ h) (λ v s2.
      by_act loaded (run_with args (p + length t) (v ∷ limited front ∷ stack) frames d s2) Concat _ at
      (at_place loaded args _ _ (sum_of (limited front) v ∷ stack) frames d s2 _ one
      (subst (λ x. Behaves loaded (run_with args (p + length a) (x ∷ stack) frames d s2) (texts_behind (front ++ text_of v) ms next s2)) (sym (sum_of_limited front v))
      (concats_right ts ms each.1 args (front ++ text_of v) (p + length a) stack frames s2 next (has_back code p a (concats ts) has)
      (λ t s3. at_place loaded args _ _ (limited t ∷ stack) frames d s3 _ len (k t s3))))))

  -- an expanded text
  pub texts_right : (ts : List Text) (ms : List Valued) → Each RightPart ts ms → RightPart (expansion_text ts) (expanded ms)
  texts_right ts ms each args p stack frames s next has k =
      let a = concats ts in
      let len : p + 1 + length a ≡ p + length (expansion_text ts) = omega arith in
      by_act loaded (run_with args p stack frames d s) (Push (val.Text [])) _ has.0
      (concats_right ts ms each args [] (p + 1) stack frames s (λ t. next (limited t)) has.1 (λ t s2.
      at_place loaded args _ _ (limited t ∷ stack) frames d s2 _ len (k (limited t) s2)))

  item_right : (way : TableUse) (t : ℕ) (c : Text) (m : Valued) → RightPart c m →
      RightPart (c ++ ReadItem way t ∷ []) (λ next. m (λ k. read_host (item_of way t (text_of k)) next))
  item_right way t c m rc args p stack frames s next has k =
      let code = loaded.code.instrs in
      let at = (has_back code p c (ReadItem way t ∷ []) has).0 in
      let len : p + length c + 1 ≡ p + length (c ++ ReadItem way t ∷ []) = omega (arith, length-append c (ReadItem way t ∷ [])) in
      rc args p stack frames s _ (has_front code p c _ has) (λ v s2.
      by_act loaded (run_with args (p + length c) (v ∷ stack) frames d s2) (ReadItem way t) _ at (
        _,
        _,
        refl,
        asked_behind loaded (record (run_with args (p + length c + 1) (val.Text (text_of v) ∷ stack) frames d s2) { wait = wait.ItemValue }) (p + length c) (ReadItem way t) refl at,
        tt,
        λ answer. at_place loaded args _ _ (told_value answer ∷ stack) frames d s2 _ len (k (told_value answer) s2),
      ))

  abbrev Fine : Part → Type 0
  Fine x = RightPart (part_code x) (part_meaning x)

  abbrev texts_of : List ((x : Part) × Fine x) → List Text
  texts_of ys = map part_code (map (λ (e : (x : Part) × Fine x). e.0) ys)

  abbrev values_of : List ((x : Part) × Fine x) → List Valued
  values_of ys = map part_meaning (map (λ (e : (x : Part) × Fine x). e.0) ys)

  pairs_right : (ys : List ((x : Part) × Fine x)) → Each RightPart (texts_of ys) (values_of ys)
  pairs_right [] = tt
  pairs_right (y ∷ ys) = (y.1, pairs_right ys)

  layer : (y : Part-F ((x : Part) × Fine x)) → RightPart (part_text (map-Part _ _ part_code (map-Part _ _ (λ e. e.0) y))) (part_meaning_step (map-Part _ _ part_meaning (map-Part _ _ (λ e. e.0) y)))
  layer (Part-F.Text t) = λ args p stack frames s next has k. by_act loaded (run_with args p stack frames d s) (Push (val.Text t)) _ has.0 (k _ s)
  layer (Part-F.Var x) = λ args p stack frames s next has k. by_act loaded (run_with args p stack frames d s) (Load x) _ has.0 (k _ s)
  layer Part-F.Code = λ args p stack frames s next has k. by_act loaded (run_with args p stack frames d s) LoadCode _ has.0 (k _ s)
  layer (Part-F.Host x) = λ args p stack frames s next has k.
      by_act loaded (run_with args p stack frames d s) (Read x) _ has.0
      (_, _, refl, asked_behind loaded (record (run_with args (p + 1) stack frames d s) { wait = wait.Value }) p (Read x) refl has.0, tt, λ answer. k (told_value answer) s)
  layer (Part-F.Item way t key) = item_right way t (expansion_text (texts_of key)) (expanded (values_of key)) (texts_right (texts_of key) (values_of key) (pairs_right key))
  layer (Part-F.Transformed tr x) = λ args. change_right loaded d args (Transform tr) (transformed tr) (λ r. refl) (part_code x.0) (part_meaning x.0) (x.1 args)

  pub part_right : (x : Part) → RightPart (part_code x) (part_meaning x)
  part_right = ind-Part Fine (λ x y is. subst (λ x. Fine (roll-Part x)) is (
      let x = map-Part ((x : Part) × Fine x) Part (λ e. e.0) y in
      subst (λ c. RightPart c (part_meaning (roll-Part x))) (sym (fold-roll-Part Text part_text x)) (
      subst (λ m. RightPart (part_text (map-Part _ _ part_code x)) m) (sym (fold-roll-Part Valued part_meaning_step x)) (layer y))))

  parts_right : (xs : List Part) → Each RightPart (map part_code xs) (map part_meaning xs)
  parts_right [] = tt
  parts_right (x ∷ xs) = (part_right x, parts_right xs)

  pub expansion_right : (xs : List Part) → RightPart (expansion_code xs) (expansion_of xs)
  expansion_right xs = texts_right (map part_code xs) (map part_meaning xs) (parts_right xs)

  -- the arguments of a call, after those before
  pub arguments_right : (xs : List (List Part)) (front : List Val) (p : ℕ) (stack : List Val) (frames : List Frame) (s : State) (next : WithValues) →
      HasAt loaded.code.instrs p (arguments_code xs) →
      ((vs : List Val) (s : State) → Behaves loaded (run_with vs (p + length (arguments_code xs)) stack frames d s) (next vs s)) →
      Behaves loaded (run_with front p stack frames d s) (arguments_behind front xs next s)
  arguments_right [] front p stack frames s next has k =
      let e : p ≡ p + 0 = omega arith in at_place loaded front _ _ stack frames d s _ e (k front s)
  arguments_right (x ∷ xs) front p stack frames s next has k =
      let code = loaded.code.instrs in
      let c = expansion_code x in
      let a = argument_text c in
      let h = has_front code p a (arguments_code xs) has in
      let at = (has_back code p c (PushArgument ∷ []) h).0 in
      let one : p + length c + 1 ≡ p + length a = omega (arith, length-append c (PushArgument ∷ [])) in
      let len : p + length a + length (arguments_code xs) ≡ p + length (a ++ arguments_code xs) = omega (arith, length-append a (arguments_code xs)) in
      expansion_right x front p stack frames s _ (has_front code p c _ h) (λ v s2.
      by_act loaded (run_with front (p + length c) (v ∷ stack) frames d s2) PushArgument _ at
      (at_place loaded (front ++ v ∷ []) _ _ stack frames d s2 _ one
      (arguments_right xs (front ++ v ∷ []) (p + length a) stack frames s2 next (has_back code p a (arguments_code xs) has)
      (λ vs s3. at_place loaded vs _ _ stack frames d s3 _ len (k vs s3)))))
