-- Where the first field of a kind lies.
use Rattle.std.proofs.Common.{◌≡◌, ℕ, Bool, List, [], ◌∷◌, inl, inr, subst, Some}
use Rattle.std.specs.List.{find, AllByRecursion}
use Rattle.std.proofs.lemmas.Bool.{cases_Bool}
use Rattle.std.proofs.lemmas.Option.{same_Some, none-some}
use Rattle.std.proofs.lemmas.List.Elements.{recursion_from_All}
use Rattle.sip_scan.specs.declared.field.HeaderSpan.{HeaderSpan}
use Rattle.sip_scan.specs.declared.field.Kind.{Kind}
use Rattle.sip_msg.specs.Fields.{is_of, first}
use Rattle.sip_build.specs.Writing.{FieldLies, FieldsLie}

found_in : (P : HeaderSpan → Type 0) (p : HeaderSpan → Bool) (xs : List HeaderSpan) (x : HeaderSpan) → AllByRecursion P xs → find p xs ≡ Some x → P x
found_in P p [] x a h = absurd (none-some x h)
found_in P p (y ∷ ys) x a h = elim (cases_Bool (p y)) [ inl t ↦ subst P (same_Some y x (rw t at h)) a.0 | inr f ↦ found_in P p ys x a.1 (rw f at h) ]

pub found_lies : (b : List ℕ) (k : Kind) (xs : List HeaderSpan) (x : HeaderSpan) → FieldsLie b xs → first k xs ≡ Some x → FieldLies b x
found_lies b k xs x a h = found_in (FieldLies b) (is_of k) xs x (recursion_from_All (FieldLies b) xs a) h
