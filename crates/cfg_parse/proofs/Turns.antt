-- A repetition, beside a loop whose turns are counted up.
use Rattle.std.proofs.Common.{◌≡◌, ℕ, suc, ◌+◌, ◌-◌, ◌<◌, ◌≤◌, List, [], ◌∷◌, ◌++◌, Option, Some, None, refl, ◌∙◌, arith}
use Rattle.cfg_tree.specs.declared.token.Token.{Token}
use Rattle.cfg_parse.specs.Reader.{Reader, many_from}

-- one item more
pub goes : {A : Type 0} {x : Option (List A × List Token)} (step : Reader (Option A)) (n at : ℕ) (found : List A) (a : A) (ts us : List Token) →
    x ≡ many_from step (n - at) found ts → at < n → step ts ≡ Some (Some a, us) → x ≡ many_from step (n - (at + 1)) (found ++ a ∷ []) us
unfolding many_from
goes step n at found a ts us e below is = let turn : n - at ≡ suc (n - (at + 1)) = omega arith in e ∙ rw turn (rw is refl)

-- no item more
pub stops : {A : Type 0} {x : Option (List A × List Token)} (step : Reader (Option A)) (n at : ℕ) (found : List A) (ts us : List Token) →
    x ≡ many_from step (n - at) found ts → at < n → step ts ≡ Some (None, us) → x ≡ Some (found, us)
unfolding many_from
stops step n at found ts us e below is = let turn : n - at ≡ suc (n - (at + 1)) = omega arith in e ∙ rw turn (rw is refl)

-- an item that isn't read
pub fails : {A : Type 0} {x : Option (List A × List Token)} (step : Reader (Option A)) (n at : ℕ) (found : List A) (ts : List Token) →
    x ≡ many_from step (n - at) found ts → at < n → step ts ≡ None → x ≡ None
unfolding many_from
fails step n at found ts e below is = let turn : n - at ≡ suc (n - (at + 1)) = omega arith in e ∙ rw turn (rw is refl)

-- all turns are taken
pub ends : {A : Type 0} {x : Option (List A × List Token)} (step : Reader (Option A)) (n at : ℕ) (found : List A) (ts : List Token) →
    x ≡ many_from step (n - at) found ts → n ≤ at → x ≡ Some (found, ts)
unfolding many_from
ends step n at found ts e done = let none : n - at ≡ 0 = omega arith in e ∙ rw none refl

pub ruleset turns = (goes, stops, fails, ends)
