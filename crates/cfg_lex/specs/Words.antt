-- Words: the keywords are those that the grammar writes in quotes.
use Rattle.std.specs.Prelude.{ℕ, List, Option, Some, None, codes, if◌then◌else◌}
use Rattle.std.specs.Str.{bytes_eq}
use Rattle.cfg_tree.specs.declared.token.Keyword as keyword
use Rattle.cfg_tree.specs.declared.token.Keyword.TheVariants.{And, Break, Case, Default, Drop, Else, Exit, If, Loadmodule, Mod, Modparam, Myself, Not, Or, Return, Route, Switch, Uri, While}

-- and, or, not, mod, uri, myself, route
unfoldable pub operand_word : List ℕ → Option keyword.Keyword
operand_word w =
    if bytes_eq w (codes "and") then Some And
    else if bytes_eq w (codes "or") then Some Or
    else if bytes_eq w (codes "not") then Some Not
    else if bytes_eq w (codes "mod") then Some Mod
    else if bytes_eq w (codes "uri") then Some Uri
    else if bytes_eq w (codes "myself") then Some Myself
    else if bytes_eq w (codes "route") then Some Route
    else None

-- the words of statements
unfoldable pub statement_word : List ℕ → Option keyword.Keyword
statement_word w =
    if bytes_eq w (codes "if") then Some If
    else if bytes_eq w (codes "else") then Some Else
    else if bytes_eq w (codes "while") then Some While
    else if bytes_eq w (codes "switch") then Some Switch
    else if bytes_eq w (codes "case") then Some Case
    else if bytes_eq w (codes "default") then Some Default
    else None

-- and those that stand alone, or at the top of a script
unfoldable pub other_word : List ℕ → Option keyword.Keyword
other_word w =
    if bytes_eq w (codes "return") then Some Return
    else if bytes_eq w (codes "exit") then Some Exit
    else if bytes_eq w (codes "drop") then Some Drop
    else if bytes_eq w (codes "break") then Some Break
    else if bytes_eq w (codes "loadmodule") then Some Loadmodule
    else if bytes_eq w (codes "modparam") then Some Modparam
    else None

abbrev pub keyword_or : Option keyword.Keyword → Option keyword.Keyword → Option keyword.Keyword
keyword_or (Some k) other = Some k
keyword_or None other = other

-- the keyword that is this word; every other word is a name
unfoldable pub keyword_of_word : List ℕ → Option keyword.Keyword
keyword_of_word w = keyword_or (operand_word w) (keyword_or (statement_word w) (other_word w))
