-- Parameters, as functions of a text and a place in it.
use Rattle.std.specs.Prelude.{ℕ, ◌+◌, Bool, List, length, Option, Some, None, if◌then◌else◌, slice_range, codes}
use Rattle.std.specs.List.{find}
use Rattle.std.specs.Str.{str_eq_ignore_ascii_case}
use Rattle.sip_words.specs.ByteNames.{DQUOTE, SEMI, EQUAL}
use Rattle.sip_words.specs.declared.bytes.Class.{Class}
use Rattle.sip_words.specs.declared.bytes.Class.TheVariants.{Token, Value, UriValue}
use Rattle.sip_words.specs.declared.separators.Separator.{Separator}
use Rattle.sip_words.specs.declared.separators.Surroundings.{Surroundings}
use Rattle.sip_words.specs.declared.separators.Surroundings.TheVariants.{Field, Uri}
use Rattle.sip_words.specs.declared.params.Param.{Param}
use Rattle.sip_words.specs.declared.params.Params.{Params}
use Rattle.sip_words.specs.Words.{◌>>=◌, word_end, quoted_end, stands}
use Rattle.sip_words.specs.Separators.{separator_at}
use Rattle.sip_words.specs.Spans.{span}
use Rattle.sip_words.specs.Many.{Next, Item, Done, Wrong, many}

abbrev pub value_class : Surroundings → Class
value_class Field = Value
value_class Uri = UriValue

-- a quoted string, or one or more bytes that a value without quotes may have
unfoldable pub value_end : Surroundings → List ℕ → ℕ → Option ℕ
value_end surroundings text i = if stands DQUOTE text i then quoted_end text (i + 1) else word_end (value_class surroundings) text i

-- the parameter behind a semicolon
unfoldable pub param_at : Surroundings → List ℕ → Separator → Option Param
param_at surroundings text m = do
  e ← word_end Token text m.end
  if stands EQUAL text e
      then (do
        v ← value_end surroundings text (e + 1)
        Some record { whole = span m.place v; name = span m.end e; value = Some (span (e + 1) v) })
      else Some record { whole = span m.place e; name = span m.end e; value = None }

abbrev pub item : Option Param → Next Param
item None = Wrong
item (Some p) = Item p p.whole.to

abbrev pub item_behind : Surroundings → List ℕ → Option Separator → Next Param
item_behind surroundings text None = Done
item_behind surroundings text (Some m) = item (param_at surroundings text m)

unfoldable pub next_param : Surroundings → List ℕ → ℕ → Next Param
next_param surroundings text i = item_behind surroundings text (separator_at surroundings SEMI text i)

-- the parameters from i on, each behind a semicolon, and where they end
unfoldable pub params_at : Surroundings → List ℕ → ℕ → Option (List Param × ℕ)
params_at surroundings text i = many (length text) (next_param surroundings text) i

abbrev pub is_named : List ℕ → List ℕ → Param → Bool
is_named name text p = str_eq_ignore_ascii_case (slice_range text p.name.from p.name.to) name

-- the first of the parameters of this name
unfoldable pub named : List ℕ → List ℕ → List Param → Option Param
named name text ps = find (is_named name text) ps

abbrev pub first_of : List ℕ → List ℕ → Option Param → Param → Option Param
first_of name text None p = if is_named name text p then Some p else None
first_of name text (Some q) p = Some q

-- those that the proxy knows
abbrev pub known : List ℕ → List Param × ℕ → Params
known text ps = record {
  branch = named (codes "branch") text ps.0;
  received = named (codes "received") text ps.0;
  rport = named (codes "rport") text ps.0;
  tag = named (codes "tag") text ps.0;
  lr = named (codes "lr") text ps.0;
  end = ps.1;
}

-- those of the empty list
abbrev pub no_params : ℕ → Params
no_params end = record { branch = None; received = None; rport = None; tag = None; lr = None; end = end }

-- those of a list to which a parameter is added
abbrev pub with_param : List ℕ → Params → Param → Params
with_param text found p = record {
  branch = first_of (codes "branch") text found.branch p;
  received = first_of (codes "received") text found.received p;
  rport = first_of (codes "rport") text found.rport p;
  tag = first_of (codes "tag") text found.tag p;
  lr = first_of (codes "lr") text found.lr p;
  end = p.whole.to;
}
