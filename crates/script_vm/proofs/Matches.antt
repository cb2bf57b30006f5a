-- A match, whether there is such a pattern or not.
use Rattle.std.proofs.Common.{◌≡◌, ℕ, ℤ, false, List, Option, Some, None, refl}
use Rattle.std.specs.Option.{option_map, unwrap_or}
use Rattle.pv_values.specs.declared.value.Val.TheVariants.{Null, Int, Text}
use Rattle.pv_values.specs.Values.{text_of}
use Rattle.pv_values.specs.Matching.{matches_in}
use Rattle.cfg_tree.specs.Meaning.{matched}

pub null_matched : (pattern : Option (List ℕ)) → matched pattern Null ≡ false
null_matched None = refl
null_matched (Some source) = refl

pub number_matched : (pattern : Option (List ℕ)) (n : ℤ) → unwrap_or (option_map (λ source. matches_in source (text_of (Int n))) pattern) false ≡ matched pattern (Int n)
number_matched None n = refl
number_matched (Some source) n = refl

pub text_matched : (pattern : Option (List ℕ)) (t : List ℕ) → unwrap_or (option_map (λ source. matches_in source t) pattern) false ≡ matched pattern (Text t)
text_matched None t = refl
text_matched (Some source) t = refl
