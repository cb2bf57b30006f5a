-- Numbers, strings, variables and calls as expressions.
use Rattle.std.specs.Prelude.{ℕ, ℤ, pos, List, [], ◌∷◌, ◌++◌, Some, None}
use Rattle.std.proofs.Common.{◌≡◌, refl}
use Rattle.cfg_tree.specs.declared.token.Token.{Token}
use Rattle.cfg_tree.specs.declared.token.Variable.{Variable}
use Rattle.cfg_tree.specs.declared.token.Lexeme.{Lexeme}
use Rattle.cfg_tree.specs.declared.token.Lexeme.TheVariants as lexeme
use Rattle.cfg_tree.specs.declared.raw.Word.{Word}
use Rattle.cfg_tree.specs.declared.raw.RawVariable.{RawVariable}
use Rattle.cfg_tree.specs.declared.raw.RawCall.{RawCall}
use Rattle.cfg_tree.specs.declared.raw.RawExpr.{RawExpr}
use Rattle.cfg_tree.specs.declared.raw.RawExpr.TheOpen.{RawExpr-F}
use Rattle.cfg_tree.specs.declared.raw.RawExpr.TheViews.{roll-RawExpr}
use Rattle.cfg_tree.specs.Tokens.{IsA, word}
use Rattle.cfg_tree.specs.Grammar as tree
use Rattle.cfg_tree.specs.Grammar.{CallIs, ExprIs}
use Rattle.cfg_parse.specs.Reader.{Reader, first}
use Rattle.cfg_parse.specs.Exprs.{atom_by, atom, prefixed_by, prefixed}
use Rattle.cfg_parse.proofs.law.Steps.{OnRead, found, and_so, read_then, Front, Takes, by_first}
use Rattle.cfg_parse.proofs.law.OneToken.{NumberIs, number_is, StringIs, string_is, VariableIs, variable_is, number_takes, string_takes, variable_takes, number_again, string_again, variable_again}
use Rattle.cfg_parse.proofs.law.Calls.{call_takes, call_again}

number_expr : (room : ℕ) (t : Token) (n : ℤ) → NumberIs t n → ExprIs tree.Unary room (t ∷ []) (roll-RawExpr (RawExpr-F.Number n))
number_expr room _ _ (number_is t n h) = tree.number room t n h

string_expr : (room : ℕ) (t : Token) (w : Word) → StringIs t w → ExprIs tree.Unary room (t ∷ []) (roll-RawExpr (RawExpr-F.String w))
string_expr room _ _ (string_is t s h) = tree.string room t s h

variable_expr : (room : ℕ) (t : Token) (v : RawVariable) → VariableIs t v → ExprIs tree.Unary room (t ∷ []) (roll-RawExpr (RawExpr-F.Variable v))
variable_expr room _ _ (variable_is t v h) = tree.variable room t v h

call_found : (room : ℕ) (ts : List Token) → OnRead (Front (ExprIs tree.Unary room) ts) (atom_by None ts)
call_found room ts = and_so (call_takes ts) (λ c rest f. found _ rest (record { front = f.front; whole = f.whole; is = tree.code_of room f.front c f.is }))

atom_found : (room : ℕ) (x : Lexeme) (ts : List Token) → OnRead (Front (ExprIs tree.Unary room) ts) (atom_by (Some x) ts)
atom_found room (lexeme.Number n) ts = and_so (number_takes ts) (λ n rest o. found _ rest (record { front = o.token ∷ []; whole = o.whole; is = number_expr room o.token n o.is }))
atom_found room (lexeme.String s) ts = and_so (string_takes ts) (λ w rest o. found _ rest (record { front = o.token ∷ []; whole = o.whole; is = string_expr room o.token w o.is }))
atom_found room (lexeme.Variable v) ts = and_so (variable_takes ts) (λ v rest o. found _ rest (record { front = o.token ∷ []; whole = o.whole; is = variable_expr room o.token v o.is }))
atom_found room _ ts = call_found room ts

pub atom_takes : (room : ℕ) → Takes (ExprIs tree.Unary room) atom
unfolding atom first
atom_takes room [] = call_found room []
atom_takes room (t ∷ ts) = atom_found room t.lexeme (t ∷ ts)

-- ---- again, also where a prefix or a bracket may come

pub data AtomIs : List Token → RawExpr → Type 0 where
  number_atom : (t : Token) (n : ℕ) → IsA (lexeme.Number (pos n)) t → AtomIs (t ∷ []) (roll-RawExpr (RawExpr-F.Number (pos n)))
  string_atom : (t : Token) (s : List ℕ) → IsA (lexeme.String s) t → AtomIs (t ∷ []) (roll-RawExpr (RawExpr-F.String (word s t)))
  variable_atom : (t : Token) (v : Variable) → IsA (lexeme.Variable v) t → AtomIs (t ∷ []) (roll-RawExpr (RawExpr-F.Variable (record { variable = v; at = t.at })))
  call_atom : (ts : List Token) (c : RawCall) → CallIs ts c → AtomIs ts (roll-RawExpr (RawExpr-F.Call c))

pub atom_again : (us : List Token) (e : RawExpr) (rest : List Token) → AtomIs us e → atom (us ++ rest) ≡ Some (e, rest)
unfolding atom
atom_again _ _ rest (number_atom t n h) = by_first atom_by t rest h (read_then _ (number_again t rest _ (number_is t n h)) refl)
atom_again _ _ rest (string_atom t s h) = by_first atom_by t rest h (read_then _ (string_again t rest _ (string_is t s h)) refl)
atom_again _ _ rest (variable_atom t v h) = by_first atom_by t rest h (read_then _ (variable_again t rest _ (variable_is t v h)) refl)
atom_again _ _ rest (call_atom ts c (tree.plain_call f left right s h k e)) = by_first atom_by f (left ∷ right ∷ rest) h (read_then _ (call_again ts c rest (tree.plain_call f left right s h k e)) refl)
atom_again _ _ rest (call_atom ts c (tree.call_with f left right vs s xs h k d e)) = by_first atom_by f (left ∷ (vs ++ right ∷ []) ++ rest) h (read_then _ (call_again ts c rest (tree.call_with f left right vs s xs h k d e)) refl)
atom_again _ _ rest (call_atom ts c (tree.route_call r left b right s h k i e)) = by_first atom_by r (left ∷ b ∷ right ∷ rest) h (read_then _ (call_again ts c rest (tree.route_call r left b right s h k i e)) refl)

pub prefixed_atom : (u : Reader RawExpr) (us : List Token) (e : RawExpr) (rest : List Token) → AtomIs us e → prefixed u (us ++ rest) ≡ Some (e, rest)
unfolding prefixed
prefixed_atom u _ _ rest (number_atom t n h) = by_first (prefixed_by u) t rest h (atom_again _ _ rest (number_atom t n h))
prefixed_atom u _ _ rest (string_atom t s h) = by_first (prefixed_by u) t rest h (atom_again _ _ rest (string_atom t s h))
prefixed_atom u _ _ rest (variable_atom t v h) = by_first (prefixed_by u) t rest h (atom_again _ _ rest (variable_atom t v h))
prefixed_atom u _ _ rest (call_atom ts c (tree.plain_call f left right s h k e)) = by_first (prefixed_by u) f (left ∷ right ∷ rest) h (atom_again _ _ rest (call_atom ts c (tree.plain_call f left right s h k e)))
prefixed_atom u _ _ rest (call_atom ts c (tree.call_with f left right vs s xs h k d e)) = by_first (prefixed_by u) f (left ∷ (vs ++ right ∷ []) ++ rest) h (atom_again _ _ rest (call_atom ts c (tree.call_with f left right vs s xs h k d e)))
prefixed_atom u _ _ rest (call_atom ts c (tree.route_call r left b right s h k i e)) = by_first (prefixed_by u) r (left ∷ b ∷ right ∷ rest) h (atom_again _ _ rest (call_atom ts c (tree.route_call r left b right s h k i e)))
