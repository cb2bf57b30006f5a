-- Where spans lie.
use Rattle.std.specs.Prelude.{ℕ, ◌≤◌, List, length, IfSome}
use Rattle.sip_words.specs.declared.Span.{Span}
use Rattle.sip_words.specs.declared.params.Param.{Param}
use Rattle.sip_words.specs.declared.params.Params.{Params}

abbrev pub span : ℕ → ℕ → Span
span i j = record { from = i; to = j }

-- the span lies between these places
pub record IsBetween (i j : ℕ) (s : Span) : Type 0 where
  pub low : i ≤ s.from
  pub order : s.from ≤ s.to
  pub high : s.to ≤ j

-- the span lies in the text
pub record IsWithin (text : List ℕ) (s : Span) : Type 0 where
  pub order : s.from ≤ s.to
  pub end : s.to ≤ length text

pub record HasParts (i j : ℕ) (p : Param) : Type 0 where
  pub whole : IsBetween i j p.whole
  pub name : IsBetween i j p.name
  pub value : IfSome p.value (IsBetween i j)

pub record KnownHaveParts (i j : ℕ) (p : Params) : Type 0 where
  pub branch : IfSome p.branch (HasParts i j)
  pub received : IfSome p.received (HasParts i j)
  pub rport : IfSome p.rport (HasParts i j)
  pub tag : IfSome p.tag (HasParts i j)
  pub lr : IfSome p.lr (HasParts i j)
