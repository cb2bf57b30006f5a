-- What each call of an index answers and leaves: the index as a relation between its places, a record and its places after it.
use Rattle.std.specs.Prelude.{◌≡◌, ◌<◌, Some, None, Ok, Err, length}
use Rattle.txn_store.specs.declared.record.IndexRecord.{IndexRecord}
use Rattle.txn_store.specs.declared.record.IndexRecord.TheVariants.{Claim, Find, Free}
use Rattle.txn_store.specs.Places.{Places, HoldsKey, IsHeldNowhere, SomeIsFree, ClaimAnswers, after_claim, after_free}

-- what an index with these places answers. Memory may be short only where a new key is to be kept
abbrev pub IndexAnswers : Places → IndexRecord → Type 0
IndexAnswers places (Claim key (Ok end)) = ClaimAnswers places key end
IndexAnswers places (Claim key (Err short)) = IsHeldNowhere places key × SomeIsFree places
IndexAnswers places (Find key (Some at)) = HoldsKey places at.0 at.1 key
IndexAnswers places (Find key None) = IsHeldNowhere places key
IndexAnswers places (Free slot) = slot < length places

-- the places after a call
abbrev pub places_after : Places → IndexRecord → Places
places_after places (Claim key (Ok end)) = after_claim places key end
places_after places (Claim key (Err short)) = places
places_after places (Find key at) = places
places_after places (Free slot) = after_free places slot

abbrev pub IndexStep : Places → IndexRecord → Places → Type 0
IndexStep old r new = IndexAnswers old r × (new ≡ places_after old r)
