-- The words of a command, without the program's name.
use Rattle.std.specs.Prelude.{◌≡◌, ℕ, List, [], ◌∷◌, map, codes}
use Rattle.std.specs.Global.{Global}
use Rattle.std.specs.declared.string.String.{String}
use Rattle.std.specs.String.{string_bytes}
use Rattle.proxy_top.specs.declared.command.Command.{Command}
use Rattle.proxy_top.specs.declared.command.Command.TheVariants.{Check, Sim}

-- check FILE
abbrev pub check_words : List ℕ → List (List ℕ)
check_words file = codes "check" ∷ file ∷ []

-- sim FILE SCENARIO
abbrev pub sim_words : List ℕ → List ℕ → List (List ℕ)
sim_words script scenario = codes "sim" ∷ script ∷ scenario ∷ []

-- the bytes of each word
abbrev pub words_of : List (String Global) → List (List ℕ)
words_of words = map (λ w. string_bytes w) words

-- the words are in no form
pub record IsNoCommand (words : List (List ℕ)) : Type 0 where
  pub no_check : (file : List ℕ) → words ≡ check_words file → ⊥
  pub no_sim : (script scenario : List ℕ) → words ≡ sim_words script scenario → ⊥

abbrev pub IsCommand : List (List ℕ) → Command → Type 0
IsCommand words (Check script) = words ≡ check_words script.now
IsCommand words (Sim script scenario) = words ≡ sim_words script.now scenario.now
