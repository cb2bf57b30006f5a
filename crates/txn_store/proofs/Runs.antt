-- Runs of an index.
use Rattle.std.proofs.Common.{◌≡◌, ℕ, zero, suc, ◌⊎◌, List, [], ◌∷◌, Option, Some, None, Ok, Err, set, length, ap, ◌∙◌, refl, sym, subst, inl, inr, ⊎_elim}
use Rattle.std.specs.List.{slice_get}
use Rattle.std.specs.Option.{option_map_or}
use Rattle.std.proofs.lemmas.Option.{same_Some, none-some}
use Rattle.std.proofs.lemmas.List.{length-set}
use Rattle.histories.proofs.Lists.{runs_keep}
use Rattle.histories.specs.Runs.{Runs}
use Rattle.server_key.specs.declared.key.Key.{Key}
use Rattle.txn_store.specs.declared.index.IndexPlace.{IndexPlace}
use Rattle.txn_store.specs.declared.index.IndexEnd.TheVariants.{Old, New, Full}
use Rattle.txn_store.specs.declared.record.IndexRecord.{IndexRecord}
use Rattle.txn_store.specs.declared.record.IndexRecord.TheVariants.{Claim, Find, Free}
use Rattle.txn_store.specs.Places.{Places, HoldsKey, IsHeldNowhere, EachKeyIsOnce, freed}
use Rattle.txn_store.specs.Records.{IndexStep}

length_freed : (s : Places) (slot : ℕ) (o : Option IndexPlace) → length (option_map_or (λ (p : IndexPlace). set s slot (freed p)) o s) ≡ length s
length_freed s slot None = refl
length_freed s slot (Some p) = length-set s slot (freed p)

keeps_slots : (n : ℕ) (s : Places) (r : IndexRecord) (t : Places) → IndexStep s r t → length s ≡ n → length t ≡ n
keeps_slots n s (Claim key (Ok (Old slot g))) t step e = ap length step.1 ∙ e
keeps_slots n s (Claim key (Ok (New slot g))) t step e = ap length step.1 ∙ (length-set s slot _ ∙ e)
keeps_slots n s (Claim key (Ok Full)) t step e = ap length step.1 ∙ e
keeps_slots n s (Claim key (Err short)) t step e = ap length step.1 ∙ e
keeps_slots n s (Find key (Some at)) t step e = ap length step.1 ∙ e
keeps_slots n s (Find key None) t step e = ap length step.1 ∙ e
keeps_slots n s (Free slot) t step e = ap length step.1 ∙ (length_freed s slot (slice_get s slot) ∙ e)

pub runs_keep_slots : (s u : Places) (rs : List IndexRecord) → Runs IndexStep s rs u → length u ≡ length s
runs_keep_slots s u rs a = runs_keep IndexStep (λ t. length t ≡ length s) (keeps_slots (length s)) s u rs a refl

-- an element of a list in which one was set is that one, or an old one
pub at_set : {X : Type 0} (xs : List X) (i k : ℕ) (y z : X) → slice_get (set xs i y) k ≡ Some z → ((k ≡ i) × (y ≡ z)) ⊎ (slice_get xs k ≡ Some z)
at_set [] i k y z e = inr e
at_set (x ∷ xs) zero zero y z e = inl (refl, same_Some y z e)
at_set (x ∷ xs) zero (suc k) y z e = inr e
at_set (x ∷ xs) (suc i) zero y z e = inr e
at_set (x ∷ xs) (suc i) (suc k) y z e = ⊎_elim (λ p. inl (ap suc p.0, p.1)) inr (at_set xs i k y z e)

same_key : (p q : IndexPlace) (key other : Key) → p ≡ q → p.key ≡ Some key → q.key ≡ Some other → key ≡ other
same_key p q key other e a b = same_Some key other (sym a ∙ (ap (λ (z : IndexPlace). z.key) e ∙ b))

-- the slots that hold a key after this one got it
new_holds : (s : Places) (slot g k h : ℕ) (key other : Key) → HoldsKey (set s slot (record { generation = g; key = Some key })) k h other
    → ((k ≡ slot) × (key ≡ other)) ⊎ HoldsKey s k h other
new_holds s slot g k h key other e =
    ⊎_elim (λ p. inl (p.0, same_key _ _ key other p.1 refl refl)) inr (at_set s slot k (record { generation = g; key = Some key }) (record { generation = h; key = Some other }) e)

pub once_new : (s : Places) (slot g : ℕ) (key : Key) → EachKeyIsOnce s → IsHeldNowhere s key → EachKeyIsOnce (set s slot (record { generation = g; key = Some key }))
once_new s slot g key once nowhere = λ k h i j other a b.
    ⊎_elim
    (λ p. ⊎_elim (λ q. p.0 ∙ sym q.0) (λ q. absurd (nowhere i j (subst (λ z. HoldsKey s i j z) (sym p.1) q))) (new_holds s slot g i j key other b))
    (λ p. ⊎_elim (λ q. absurd (nowhere k h (subst (λ z. HoldsKey s k h z) (sym q.1) p))) (λ q. once k h i j other p q) (new_holds s slot g i j key other b))
    (new_holds s slot g k h key other a)

pub freed_holds : (s : Places) (slot k h : ℕ) (p : IndexPlace) (other : Key) → HoldsKey (set s slot (freed p)) k h other → HoldsKey s k h other
freed_holds s slot k h p other e =
    ⊎_elim (λ q. absurd (none-some other (ap (λ (z : IndexPlace). z.key) q.1))) (λ q. q) (at_set s slot k (freed p) (record { generation = h; key = Some other }) e)

pub once_freed : (s : Places) (slot : ℕ) (o : Option IndexPlace) → EachKeyIsOnce s → EachKeyIsOnce (option_map_or (λ (p : IndexPlace). set s slot (freed p)) o s)
once_freed s slot None once = once
once_freed s slot (Some p) once = λ k h i j other a b. once k h i j other (freed_holds s slot k h p other a) (freed_holds s slot i j p other b)

keeps_once : (s : Places) (r : IndexRecord) (t : Places) → IndexStep s r t → EachKeyIsOnce s → EachKeyIsOnce t
keeps_once s (Claim key (Ok (Old slot g))) t step once = subst EachKeyIsOnce (sym step.1) once
keeps_once s (Claim key (Ok (New slot g))) t step once = subst EachKeyIsOnce (sym step.1) (once_new s slot g key once step.0.0)
keeps_once s (Claim key (Ok Full)) t step once = subst EachKeyIsOnce (sym step.1) once
keeps_once s (Claim key (Err short)) t step once = subst EachKeyIsOnce (sym step.1) once
keeps_once s (Find key (Some at)) t step once = subst EachKeyIsOnce (sym step.1) once
keeps_once s (Find key None) t step once = subst EachKeyIsOnce (sym step.1) once
keeps_once s (Free slot) t step once = subst EachKeyIsOnce (sym step.1) (once_freed s slot (slice_get s slot) once)

pub runs_keep_once : (s u : Places) (rs : List IndexRecord) → EachKeyIsOnce s → Runs IndexStep s rs u → EachKeyIsOnce u
runs_keep_once s u rs once a = runs_keep IndexStep EachKeyIsOnce keeps_once s u rs a once
