-- Each suspension is won at most once.
use Rattle.std.proofs.Common.{◌≡◌, ◌≢◌, ◌⊎◌, ℕ, zero, suc, ◌+◌, ◌-◌, ◌<◌, ◌≤◌, eqb, Bool, cond, Option, Some, None, List, [], ◌∷◌, ◌++◌, length, set, get_or, refl, sym, ap, ◌∙◌, subst, inl, inr, arith, eq-eqb, ne_eqb, get_or-set_other}
use mathlib.Core.Logic.{dite}
use native.Mathlib.Decide.{ℕ_discrete, dec_lt}
use Rattle.claim_words.specs.declared.By.{By}
use Rattle.claim_words.specs.declared.ClaimEnd.{ClaimEnd}
use Rattle.claim_words.specs.declared.ClaimEnd.TheVariants.{Won, Lost, Past, Unknown}
use Rattle.claim_words.specs.declared.ClaimRecord.{ClaimRecord}
use Rattle.claim_words.specs.declared.ClaimRecord.TheVariants.{Opened, Claimed}
use Rattle.histories.specs.Runs.{folded, EachAnswers}
use Rattle.histories.specs.Records.{records}
use Rattle.claim_words.specs.Suspensions.{suspension, ended_by, opened, claimed, claim_end, end_at, after, IsAnswer, suspensions, win, wins, ClaimEntry, IsClaimHistory}
use Rattle.claim_words.proofs.Items.{claimed_other, claimed_same, newest_claimed, missed, won_is, claim_at}

abbrev done : Option By → ℕ
done None = 0
done (Some b) = 1

same_get : (xs : List (Option By)) (n : ℕ) → get_or (xs ++ None ∷ []) n None ≡ get_or xs n None
same_get [] zero = refl
same_get [] (suc n) = refl
same_get (x ∷ xs) zero = refl
same_get (x ∷ xs) (suc n) = same_get xs n

item_opened : (xs : List (Option By)) (s : ℕ) → suspension (opened xs) s ≡ suspension xs s
item_opened xs zero = refl
item_opened xs (suc s) = same_get xs s

item_other : (xs : List (Option By)) (s t : ℕ) (by : By) → 0 < t → s ≢ t → suspension (claimed xs t by) s ≡ suspension xs s
item_other xs zero t by l ne = refl
item_other xs (suc n) t by l ne = dite (ℕ_discrete t (length xs))
    (λ is. ap (λ z. suspension z (suc n)) (claimed_same xs t by is) ∙ get_or-set_other xs (t - 1) n (ended_by (suspension xs t) by) None (λ q. ne (omega arith)))
    (λ apart. ap (λ z. suspension z (suc n)) (claimed_other xs t by apart))

kept : (xs : List (Option By)) (s t : ℕ) (by : By) → ((p : ℕ) → ¬ (Won p ≡ claim_end xs t)) → done (suspension (claimed xs t by) s) ≡ done (suspension xs s)
kept xs s t by lost = dite (dec_lt 0 t)
    (λ some_serial. dite (ℕ_discrete t (length xs))
    (λ n. dite (ℕ_discrete s t)
    (λ same. ap (λ z. done (suspension (claimed xs t by) z)) same ∙ (ap done (newest_claimed xs t by n some_serial)
    ∙ (had (suspension xs t) (λ none. lost (t - 1) (sym (claim_at xs t n some_serial ∙ ap (λ o. end_at o t) none))) ∙ ap (λ z. done (suspension xs z)) (sym same))))
    (λ ne. ap done (item_other xs s t by some_serial ne)))
    (λ ne. ap (λ z. done (suspension z s)) (claimed_other xs t by ne)))
    (λ zero. ap (λ z. done (suspension z s)) (missed xs t by (inl (omega arith))))
  where
    had : (o : Option By) → (o ≡ None → ⊥) → done (ended_by o by) ≡ done o
    had None f = absurd (f refl)
    had (Some b) f = refl

won_lost : {p : ℕ} {b : By} → Won p ≡ Lost b → ⊥
won_lost e = cc

won_past : {p n : ℕ} → Won p ≡ Past n → ⊥
won_past e = cc

won_unknown : {p : ℕ} → Won p ≡ Unknown → ⊥
won_unknown e = cc

abbrev pick : Bool → ℕ
pick b = cond b 1 0

counts : (xs : List (Option By)) (s t : ℕ) (by : By) (end : ClaimEnd) → end ≡ claim_end xs t → win s (Claimed t by end) + done (suspension xs s) ≡ done (suspension (claimed xs t by) s)
counts xs s t by (Won p) e = let w = won_is xs t p e in dite (ℕ_discrete t s)
    (λ same. let a : win s (Claimed t by (Won p)) ≡ 1 = ap pick (eq-eqb t s same) in
    let b : done (suspension xs s) ≡ 0 = ap (λ z. done (suspension xs z)) (sym same) ∙ ap done w.2 in
    let c : done (suspension (claimed xs t by) s) ≡ 1 = ap (λ z. done (suspension (claimed xs t by) z)) (sym same) ∙ (ap done (newest_claimed xs t by w.0 w.1) ∙ ap (λ o. done (ended_by o by)) w.2) in omega arith)
    (λ ne. let a : win s (Claimed t by (Won p)) ≡ 0 = ap pick (ne_eqb t s ne) in
    let c : done (suspension (claimed xs t by) s) ≡ done (suspension xs s) = ap done (item_other xs s t by w.1 (λ q. ne (sym q))) in omega arith)
counts xs s t by (Lost b) e = let k = kept xs s t by (λ p q. won_lost (q ∙ sym e)) in omega arith
counts xs s t by (Past n) e = let k = kept xs s t by (λ p q. won_past (q ∙ sym e)) in omega arith
counts xs s t by Unknown e = let k = kept xs s t by (λ p q. won_unknown (q ∙ sym e)) in omega arith

counts_all : (xs : List (Option By)) (h : List ClaimRecord) (s : ℕ) → EachAnswers IsAnswer after xs h → wins s h + done (suspension xs s) ≡ done (suspension (folded after xs h) s)
counts_all xs [] s l = omega arith
counts_all xs (Opened t ∷ es) s l = let r = counts_all (opened xs) es s l.1 in let o : done (suspension (opened xs) s) ≡ done (suspension xs s) = ap done (item_opened xs s) in omega arith
counts_all xs (Claimed t by end ∷ es) s l = let r = counts_all (claimed xs t by) es s l.1 in let o = counts xs s t by end l.0 in omega arith

done_small : (o : Option By) → done o ≤ 1
done_small None = omega arith
done_small (Some b) = omega arith

nothing : (s : ℕ) → done (suspension [] s) ≡ 0
nothing zero = refl
nothing (suc s) = refl

pub once : (h : List ClaimEntry) (s : ℕ) → IsClaimHistory h → wins s (records h) ≤ 1
once h s l = let a = counts_all [] (records h) s l in let b = done_small (suspension (suspensions h) s) in omega arith

pub ended_once : (h : List ClaimEntry) (s : ℕ) (b : By) → IsClaimHistory h → suspension (suspensions h) s ≡ Some b → wins s (records h) ≡ 1
ended_once h s b l e = let a = counts_all [] (records h) s l in let c : done (suspension (suspensions h) s) ≡ 1 = ap done e in let n = nothing s in omega arith
