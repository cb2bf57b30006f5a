-- The grammar of the words (RFC 3261, section 25.1): trees, the text that each one spells, and where its parts stand.
use Rattle.std.specs.Prelude.{◌≡◌, ◌≢◌, ℕ, ◌+◌, ◌<◌, true, List, [], ◌∷◌, ◌++◌, length, Option, Some, None, IfSome, if◌then◌else◌}
use Rattle.std.specs.List.{find, flat_map, AllByRecursion}
use Rattle.std.specs.Str.{str_eq_ignore_ascii_case}
use Rattle.sip_words.specs.ByteNames.{HTAB, LF, CR, SP, DQUOTE, SEMI, EQUAL, BACKSLASH}
use Rattle.sip_words.specs.declared.bytes.Class.{Class}
use Rattle.sip_words.specs.declared.bytes.Class.TheVariants.{Token}
use Rattle.sip_words.specs.declared.separators.Separator.{Separator}
use Rattle.sip_words.specs.declared.separators.Surroundings.{Surroundings}
use Rattle.sip_words.specs.declared.separators.Surroundings.TheVariants.{Field, Uri}
use Rattle.sip_words.specs.declared.Span.{Span}
use Rattle.sip_words.specs.declared.params.Param.{Param}
use Rattle.sip_words.specs.Bytes.{has}
use Rattle.sip_words.specs.Spans.{span}
use Rattle.sip_words.specs.Params.{value_class}

-- LWS: SP, HTAB, and either behind a CRLF
pub data Blank : Type 0 where
  Space : Blank
  Tab : Blank
  FoldSpace : Blank
  FoldTab : Blank

abbrev pub blank : Blank → List ℕ
blank Space = SP ∷ []
blank Tab = HTAB ∷ []
blank FoldSpace = CR ∷ LF ∷ SP ∷ []
blank FoldTab = CR ∷ LF ∷ HTAB ∷ []

abbrev pub lws : List Blank → List ℕ
lws blanks = flat_map blank blanks

-- no LWS begins here
abbrev pub NoBlank : List ℕ → Type 0
NoBlank rest = (b : Blank) (w : List ℕ) → rest ≢ blank b ++ w

-- one byte, with LWS round it
pub record SeparatorTree : Type 0 where
  pub before : List Blank
  pub after : List Blank

abbrev pub separator : ℕ → SeparatorTree → List ℕ
separator byte m = lws m.before ++ byte ∷ lws m.after

-- in a URI no LWS stands
abbrev pub IsSpacing : Surroundings → List Blank → Type 0
IsSpacing Field bs = Unit {0}
IsSpacing Uri bs = bs ≡ []

pub record IsSeparator (surroundings : Surroundings) (m : SeparatorTree) : Type 0 where
  pub before : IsSpacing surroundings m.before
  pub after : IsSpacing surroundings m.after

abbrev pub separator_place : ℕ → ℕ → SeparatorTree → Separator
separator_place i byte m = record { place = i + length (lws m.before); end = i + length (separator byte m) }

-- one or more bytes of a class
pub record IsWord (class : Class) (w : List ℕ) : Type 0 where
  pub some : 0 < length w
  pub all : AllByRecursion (λ b. has class b ≡ true) w

-- a quoted string is bytes that stand for themselves, and pairs of a backslash and a byte
pub data Quotable : Type 0 where
  Plain : ℕ → Quotable
  Escaped : ℕ → Quotable

abbrev pub quotable : Quotable → List ℕ
quotable (Plain b) = b ∷ []
quotable (Escaped b) = BACKSLASH ∷ b ∷ []

abbrev pub IsQuotable : Quotable → Type 0
IsQuotable (Plain b) = (b ≢ DQUOTE) × (b ≢ BACKSLASH)
IsQuotable (Escaped b) = Unit {0}

-- with its quotes
abbrev pub quoted : List Quotable → List ℕ
quoted q = DQUOTE ∷ (flat_map quotable q ++ DQUOTE ∷ [])

pub data ValueTree : Type 0 where
  Bare : List ℕ → ValueTree
  Quoted : List Quotable → ValueTree

abbrev pub value : ValueTree → List ℕ
value (Bare w) = w
value (Quoted q) = quoted q

abbrev pub IsValue : Surroundings → ValueTree → Type 0
IsValue surroundings (Bare w) = IsWord (value_class surroundings) w
IsValue surroundings (Quoted q) = AllByRecursion IsQuotable q

-- ;name or ;name=value
pub record ParamTree : Type 0 where
  pub semicolon : SeparatorTree
  pub name : List ℕ
  pub value : Option ValueTree

abbrev pub assigned : Option ValueTree → List ℕ
assigned None = []
assigned (Some v) = EQUAL ∷ value v

abbrev pub param : ParamTree → List ℕ
param p = separator SEMI p.semicolon ++ (p.name ++ assigned p.value)

pub record IsParam (surroundings : Surroundings) (p : ParamTree) : Type 0 where
  pub semicolon : IsSeparator surroundings p.semicolon
  pub name : IsWord Token p.name
  pub value : IfSome p.value (IsValue surroundings)

abbrev pub value_place : ℕ → Option ValueTree → Option Span
value_place i None = None
value_place i (Some v) = Some (span (i + 1) (i + 1 + length (value v)))

-- a parameter's parts, where what stands before it ends at i
abbrev pub param_place : ℕ → ParamTree → Param
param_place i p =
    let m = separator_place i SEMI p.semicolon in
    let end = m.end + length p.name in
    record { whole = span m.place (end + length (assigned p.value)); name = span m.end end; value = value_place end p.value }

abbrev pub params : List ParamTree → List ℕ
params ps = flat_map param ps

abbrev pub param_places : ℕ → List ParamTree → List Param
param_places i [] = []
param_places i (p ∷ ps) = param_place i p ∷ param_places (i + length (param p)) ps

-- the first parameter of a name (names ignore case: RFC 3261, section 7.3.1)
abbrev pub named_tree : List ℕ → List ParamTree → Option ParamTree
named_tree name ps = find (λ p. str_eq_ignore_ascii_case p.name name) ps

-- its parts, where what stands before the parameters ends at i
abbrev pub named_place : List ℕ → ℕ → List ParamTree → Option Param
named_place name i [] = None
named_place name i (p ∷ ps) = if str_eq_ignore_ascii_case p.name name then Some (param_place i p) else named_place name (i + length (param p)) ps
