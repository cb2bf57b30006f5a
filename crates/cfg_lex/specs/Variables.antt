-- Where the parts of a variable stand, and where a text ends inside its brackets.
use Rattle.std.specs.Prelude.{ℕ, ◌+◌, ◌-◌, ◌==◌, Bool, true, not, ◌&&◌, nat_le, is_none, List, [], ◌∷◌, length, take, drop, Option, Some, None, option_map, IfSome, ◌≤◌, if◌then◌else◌}
use Rattle.cfg_tree.specs.declared.token.Variable.{Variable}
use Rattle.cfg_tree.specs.Variables.{name_len, begins_with, before, before_close}
use Rattle.cfg_lex.specs.declared.variable.Stretch.{Stretch}
use Rattle.cfg_lex.specs.declared.variable.VariableForm.{VariableForm}
use Rattle.cfg_tree.specs.ByteNames.{LPAREN, RPAREN, LBRACE, RBRACE}

abbrev pub stretch : ℕ → ℕ → Stretch
stretch from len = record { from = from; len = len }

-- NAME(INNER) with a name of this length
abbrev pub form_with_inner : ℕ → Option ℕ → Option VariableForm
form_with_inner n None = None
form_with_inner n (Some k) = Some record { name = stretch 0 n; inner = Some (stretch (n + 1) k); transformation = None; len = n + k + 2 }

-- NAME or NAME(INNER) at the beginning of a text
unfoldable pub named_form : List ℕ → Option VariableForm
named_form text =
    let n = name_len text in
    if n == 0 then None
    else if begins_with LPAREN (drop n text) then form_with_inner n (before_close 0 (drop (n + 1) text))
    else Some record { name = stretch 0 n; inner = None; transformation = None; len = n }

-- one byte further on
abbrev pub further : Stretch → Stretch
further p = stretch (p.from + 1) p.len

-- `{TRANSFORMATION})` after the name and its inner text
unfoldable pub form_with_transformation : List ℕ → VariableForm → Option VariableForm
form_with_transformation text f =
    let k = before RBRACE (drop (f.len + 2) text) in
    if begins_with LBRACE (drop (f.len + 1) text) && begins_with RBRACE (drop (f.len + 2 + k) text) && begins_with RPAREN (drop (f.len + 3 + k) text)
    then Some record {
      name = further f.name;
      inner = option_map further f.inner;
      transformation = Some (stretch (f.len + 2) k);
      len = f.len + k + 4;
    } else None

abbrev pub transformed_form : List ℕ → Option VariableForm → Option VariableForm
transformed_form text None = None
transformed_form text (Some f) = form_with_transformation text f

-- the variable after a `$`
unfoldable pub form_at : List ℕ → Option VariableForm
form_at text = if begins_with LPAREN text then transformed_form text (named_form (drop 1 text)) else named_form text

-- the variable that has these parts
abbrev pub bytes_of : List ℕ → Stretch → List ℕ
bytes_of text p = take p.len (drop p.from text)

abbrev pub variable_of : List ℕ → VariableForm → Variable
variable_of text f = record {
  name = bytes_of text f.name;
  inner = option_map (bytes_of text) f.inner;
  transformation = option_map (bytes_of text) f.transformation;
}

-- one more bracket is open after a `(`, and one less after a `)`
abbrev pub opened_behind : ℕ → ℕ → ℕ
opened_behind c opened = if c == LPAREN then opened + 1 else if c == RPAREN then opened - 1 else opened

-- a `)`, where no bracket inside is open
abbrev pub closes : ℕ → ℕ → Bool
closes c opened = (opened == 0) && (c == RPAREN)

-- NAME( stands here, and its bracket isn't closed
unfoldable pub is_open_name : List ℕ → Bool
is_open_name text = let n = name_len text in
    not (n == 0) && (begins_with LPAREN (drop n text) && is_none (before_close 0 (drop (n + 1) text)))

-- the text ends before `{TRANSFORMATION})` does
unfoldable pub is_open_transformation : List ℕ → Bool
is_open_transformation [] = true
is_open_transformation (c ∷ text) = (c == LBRACE) && nat_le (length text) (before RBRACE text + 1)

abbrev pub is_open_behind : List ℕ → Option VariableForm → Bool
is_open_behind text None = is_open_name text
is_open_behind text (Some f) = is_open_transformation (drop f.len text)

-- after `$(` the text ends inside the brackets
unfoldable pub is_open_bracket : List ℕ → Bool
is_open_bracket [] = true
is_open_bracket (c ∷ text) = is_open_behind (c ∷ text) (named_form (c ∷ text))

-- the text after a `$` ends inside a variable's brackets
unfoldable pub is_cut_off : List ℕ → Bool
is_cut_off text = if begins_with LPAREN text then is_open_bracket (drop 1 text) else is_open_name text

-- a part lies in so many bytes
abbrev pub StretchLiesIn : ℕ → Stretch → Type 0
StretchLiesIn len p = p.from + p.len ≤ len

-- the parts of a form, and all of it
pub record FormIsWithin (len : ℕ) (f : VariableForm) : Type 0 where
  pub name : StretchLiesIn len f.name
  pub inner : IfSome f.inner (StretchLiesIn len)
  pub transformation : IfSome f.transformation (StretchLiesIn len)
  pub whole : f.len ≤ len
