-- A call of a function, where it may stand and where not.
use Rattle.std.proofs.Common.{◌≡◌, ℕ, Bool, true, false, List, [], ◌∷◌, ◌++◌, Option, Some, None, Result, IfOk, if◌then◌else◌, refl, ◌∙◌, sym, append_assoc}
use Rattle.std.proofs.lemmas.Result.{IfOk-weaker}
use Rattle.pv_values.specs.Kinds.{function_named}
use Rattle.pv_values.specs.declared.function_name.FuncName.{FuncName}
use Rattle.cfg_tree.specs.declared.raw.Word.{Word}
use Rattle.cfg_tree.specs.declared.raw.RawArg.{RawArg}
use Rattle.cfg_tree.specs.declared.raw.RouteKind.{RouteKind}
use Rattle.cfg_tree.specs.Names.{Known}
use Rattle.cfg_tree.specs.Functions.{FuncWith, form, may_stand, function_call}
use Rattle.cfg_tree.specs.Refusals.{refusal, Refusal, from_some, unless}
use Rattle.cfg_calls.specs.Following.{CheckState, Follows}
use Rattle.cfg_tree.specs.declared.refusal_kind.RefusalKind.TheVariants.{UnknownFunction, WrongBlock}

-- where the function may stand
stands : (named : Option FuncName) (f : FuncName) (known : Known) (kind : RouteKind) (w : Word) (args : List RawArg) {old new : CheckState} {v : Option FuncWith} →
    named ≡ Some f → may_stand f kind ≡ true → Follows (form f known w.at args) old v new →
    Follows (from_some named UnknownFunction w.at (λ f. unless (if may_stand f kind then None else Some (refusal WrongBlock w.at)) (form f known w.at args))) old v new
stands named f known kind w args is within h = rw (is, within) record { value_is = h.value_is; refusals_are = h.refusals_are; seen_is = h.seen_is }

-- where it may not
stands_not : (named : Option FuncName) (f : FuncName) (known : Known) (kind : RouteKind) (w : Word) (args : List RawArg) {old mid new : CheckState} {v : Option FuncWith} →
    named ≡ Some f → may_stand f kind ≡ false → mid.seen ≡ old.seen → mid.refusals ≡ old.refusals ++ refusal WrongBlock w.at ∷ [] → Follows (form f known w.at args) mid v new →
    Follows (from_some named UnknownFunction w.at (λ f. unless (if may_stand f kind then None else Some (refusal WrongBlock w.at)) (form f known w.at args))) old None new
stands_not named f known kind w args {old} {mid} {new} is outside seen noted h =
    let r : Refusal = refusal WrongBlock w.at in
    let refusals = rw seen at h.refusals_are in
    let after = rw seen at h.seen_is in
    rw (is, outside) record {
      value_is = refl;
      refusals_are = refusals ∙ rw noted (append_assoc old.refusals (r ∷ []) (form f known w.at args old.seen).refusals);
      seen_is = after;
    }

pub call_stands : {E : Type 0} (known : Known) (kind : RouteKind) (w : Word) (args : List RawArg) (name : List ℕ) (f : FuncName) (old new : CheckState) (r : Result (Option FuncWith) E) →
    name ≡ w.text → Some f ≡ function_named name → may_stand f kind ≡ true → IfOk r (λ v. Follows (form f known w.at args) old v new) → IfOk r (λ v. Follows (function_call known kind w args) old v new)
call_stands known kind w args name f old new r text found within h =
    let named = rw text at (sym found) in
    IfOk-weaker r _ _ (λ v k. stands (function_named w.text) f known kind w args named within k) h

pub call_stands_not : (known : Known) (kind : RouteKind) (w : Word) (args : List RawArg) (name : List ℕ) (f : FuncName) {old mid new : CheckState} {v : Option FuncWith} →
    name ≡ w.text → Some f ≡ function_named name → may_stand f kind ≡ false → mid.seen ≡ old.seen → mid.refusals ≡ old.refusals ++ refusal WrongBlock w.at ∷ [] → Follows (form f known w.at args) mid v new → Follows (function_call known kind w args) old None new
call_stands_not known kind w args name f text found outside seen noted h =
    let named = rw text at (sym found) in
    stands_not (function_named w.text) f known kind w args named outside seen noted h
