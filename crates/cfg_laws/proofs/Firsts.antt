-- A tree has one kind and one beginning of its first refusal.
use Rattle.std.proofs.Common.{◌≡◌, ◌⊎◌, ℕ, ◌<◌, ◌≤◌, List, inl, inr, arith}
use Rattle.std.proofs.lemmas.List.Elements.{All-contains}
use Rattle.pv_values.specs.declared.refusal.Place.{Place}
use Rattle.cfg_tree.specs.declared.raw.RawScript.{RawScript}
use Rattle.cfg_tree.specs.Checks.{IsRefused, refusals_of}
use Rattle.cfg_tree.specs.Refusals.{Refusal, GoesBefore, IsFirst}

neither : (a b k l : ℕ) → (a < b) ⊎ ((a ≡ b) × (k ≤ l)) → (b < a) ⊎ ((b ≡ a) × (l ≤ k)) → (k ≡ l) × (a ≡ b)
neither a b k l (inl h) (inl i) = absurd (omega arith)
neither a b k l (inl h) (inr (e, i)) = absurd (omega arith)
neither a b k l (inr (e, h)) (inl i) = absurd (omega arith)
neither a b k l (inr (e, h)) (inr (f, i)) = (omega arith, e)

firsts : (rs : List Refusal) (a b : Refusal) → IsFirst rs a → IsFirst rs b → (a.kind ≡ b.kind) × (a.at.from ≡ b.at.from)
firsts rs a b x y =
    neither a.at.from b.at.from a.kind b.kind (All-contains (GoesBefore a) rs b x.first y.listed) (All-contains (GoesBefore b) rs a y.first x.listed)

pub one_first : (raw : RawScript) (kind : ℕ) (at : Place) (other : ℕ) (there : Place) → IsRefused raw kind at → IsRefused raw other there → (kind ≡ other) × (at.from ≡ there.from)
one_first raw kind at other there x y = firsts (refusals_of raw) (record { kind = kind; at = at }) (record { kind = other; at = there }) x y
