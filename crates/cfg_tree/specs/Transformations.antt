-- What a script makes of a variable's value.
use Rattle.std.specs.Prelude.{ℕ, ℤ, pos, List, length, Option, Some, None, slice_range}
use Rattle.sip_words.specs.declared.Span.{Span}
use Rattle.sip_fields.specs.declared.uri.Uri.{Uri}
use Rattle.sip_fields.specs.declared.uri.Scheme as scheme
use Rattle.sip_fields.specs.declared.uri.Scheme.TheVariants.{Sip, Sips, Other}
use Rattle.sip_fields.specs.Uri.{uri_at}
use Rattle.pv_values.specs.declared.value.Val.{Val}
use Rattle.pv_values.specs.declared.value.Val.TheVariants.{Null, Int, Text}
use Rattle.pv_values.specs.declared.variable.Transformation.{Transformation}
use Rattle.pv_values.specs.declared.variable.Transformation.TheVariants.{Length, Number, UriUser, UriHost}
use Rattle.pv_values.specs.Values.{number_of, text_of}

-- a number as a value, and Null without one
abbrev pub int_or_null : Option ℤ → Val
int_or_null None = Null
int_or_null (Some n) = Int n

-- a part of a text as a value, and Null without one
abbrev pub part_or_null : List ℕ → Option Span → Val
part_or_null text None = Null
part_or_null text (Some part) = Text (slice_range text part.from part.to)

-- what is made of a `sip` or `sips` URI, and Null of any other
abbrev pub by_scheme : scheme.Scheme → Val → Val
by_scheme Sip v = v
by_scheme Sips v = v
by_scheme Other v = Null

-- the user and the host of the URI that the text is
abbrev pub user_in : List ℕ → Option Uri → Val
user_in text None = Null
user_in text (Some uri) = by_scheme uri.scheme (part_or_null text uri.user)

abbrev pub host_in : List ℕ → Option Uri → Val
host_in text None = Null
host_in text (Some uri) = by_scheme uri.scheme (part_or_null text (Some uri.host_at))

-- what a transformation makes of a text
abbrev pub of_text : Transformation → List ℕ → Val
of_text Length text = Int (pos (length text))
of_text Number text = int_or_null (number_of (Text text))
of_text UriUser text = user_in text (uri_at text 0)
of_text UriHost text = host_in text (uri_at text 0)

-- what it makes of a number, which is no URI
abbrev pub of_int : Transformation → ℤ → Val
of_int Length n = Int (pos (length (text_of (Int n))))
of_int Number n = Int n
of_int UriUser n = Null
of_int UriHost n = Null

-- what it makes of a value; Null stays Null
abbrev pub transformed : Transformation → Val → Val
transformed tr Null = Null
transformed tr (Int n) = of_int tr n
transformed tr (Text t) = of_text tr t
