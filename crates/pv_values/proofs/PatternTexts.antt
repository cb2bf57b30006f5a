-- What the parser of `regex` tells of a text, of which no pattern is built.
use Rattle.std.proofs.Common.{◌≡◌, ◌≢◌, Bool, true, false, List, ℕ, IsUtf8, sym}
use Rattle.regex_syntax.specs.Grammar.{Names}
use Rattle.regex_syntax.specs.Verdict.{Reads, Refuses}
use Rattle.regex_syntax.specs.declared.Config.{Config}
use Rattle.regex_syntax.specs.declared.error.ErrorKind.{ErrorKind}
use Rattle.regex_syntax.specs.declared.error.ErrorKind.TheVariants.{OutOfMemory}
use Rattle.regex_hir.specs.declared.hir.Hir.{Hir}
use Rattle.pv_values.specs.Matching.{byte_config, is_pattern}
use Rattle.pv_values.proofs.PatternLemmas.{pattern_of_read, none_of_refusal}

pub read_is_pattern : (config : Config) (text source : List ℕ) (hir : Hir) (names : Names) → config ≡ byte_config → text ≡ source → IsUtf8 source →
    Reads config text hir names → true ≡ is_pattern source
read_is_pattern config text source hir names is same utf8 reads = let read = rw (is, same) at reads in sym (pattern_of_read source hir names utf8 read)

pub refused_is_none : (config : Config) (text source : List ℕ) (kind : ErrorKind) → config ≡ byte_config → text ≡ source → kind ≢ OutOfMemory →
    Refuses config text kind → false ≡ is_pattern source
refused_is_none config text source kind is same some refuses = let refused = rw (is, same) at refuses in sym (none_of_refusal source kind refused some)
