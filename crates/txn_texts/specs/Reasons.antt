-- A reason phrase.
use Rattle.std.specs.Prelude.{ℕ, List}
use Rattle.txn_texts.specs.declared.out_text.Reason.{Reason}
use Rattle.txn_texts.specs.declared.out_text.Reason.TheVariants.{Own, OfScript}

abbrev pub reason_text : Reason → List ℕ
reason_text (Own reason) = reason.now
reason_text (OfScript reason) = reason
