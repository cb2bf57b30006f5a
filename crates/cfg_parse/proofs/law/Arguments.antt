-- Arguments: what is read is derived, and what is derived is read.
use Rattle.std.specs.Prelude.{ℤ, pos, negsuc, neg_ℤ, false, ◌<◌, List, [], ◌∷◌, ◌++◌, length, Some, None}
use Rattle.std.proofs.Common.{◌≡◌, refl, sym, ap, subst, ◌∙◌, append_assoc, append-nil, arith}
use Rattle.pv_values.specs.declared.refusal.Place.{Place}
use Rattle.cfg_tree.specs.declared.token.Token.{Token}
use Rattle.cfg_tree.specs.declared.token.Lexeme.{Lexeme}
use Rattle.cfg_tree.specs.declared.token.Lexeme.TheVariants as lexeme
use Rattle.cfg_tree.specs.declared.token.Mark.TheVariants as mark
use Rattle.cfg_tree.specs.declared.raw.RawArg.{RawArg}
use Rattle.cfg_tree.specs.declared.raw.RawArg.TheVariants as arg
use Rattle.cfg_tree.specs.Tokens.{IsMark}
use Rattle.cfg_tree.specs.Grammar.{ArgIs, string_arg, number_arg, negative_arg, variable_arg, ArgsAre, last_arg, more_args}
use Rattle.cfg_parse.specs.Reader.{first, one, passed, behind_mark, sees_mark}
use Rattle.cfg_parse.specs.Calls.{arg_by, number, string, variable, argument, more_arguments, arguments}
use Rattle.cfg_parse.proofs.law.Steps.{OnRead, nothing, found, and_so, read_then, Front, Takes, mark_takes, eaten, sees, unseen, mark_again, eats, leaves, by_first}
use Rattle.cfg_parse.proofs.law.Several.{Several, none, more, OnStep, behind_takes, many_again}
use Rattle.cfg_parse.proofs.law.OneToken.{NumberIs, number_is, number_takes, number_again, string_again, variable_again, string_is, variable_is}

negative : (m t : Token) (n : ℤ) → IsMark mark.Minus m → NumberIs t n → ArgIs (m ∷ t ∷ []) (arg.Number (neg_ℤ n))
negative m _ _ h (number_is t n k) = negative_arg m t n h k

arg_found : (x : Lexeme) (at : Place) (ts : List Token) → OnRead (Front ArgIs (record { lexeme = x; at = at } ∷ ts)) (arg_by (Some x) (record { lexeme = x; at = at } ∷ ts))
unfolding string number variable one passed
arg_found (lexeme.String s) at ts = let t : Token = record { lexeme = lexeme.String s; at = at } in found _ ts (record { front = t ∷ []; whole = refl; is = string_arg t s refl })
arg_found (lexeme.Number (pos n)) at ts = let t : Token = record { lexeme = lexeme.Number (pos n); at = at } in found _ ts (record { front = t ∷ []; whole = refl; is = number_arg t n refl })
arg_found (lexeme.Number (negsuc n)) at ts = nothing
arg_found (lexeme.Mark mark.Minus) at ts =
    let m : Token = record { lexeme = lexeme.Mark mark.Minus; at = at } in
    and_so (number_takes ts) (λ n mid o. found _ mid (record { front = m ∷ o.token ∷ []; whole = ap (λ us. m ∷ us) o.whole; is = negative m o.token n refl o.is }))
arg_found (lexeme.Variable v) at ts = let t : Token = record { lexeme = lexeme.Variable v; at = at } in found _ ts (record { front = t ∷ []; whole = refl; is = variable_arg t v refl })
arg_found _ at ts = nothing

pub arg_takes : Takes ArgIs argument
unfolding argument first variable one
arg_takes [] = nothing
arg_takes (t ∷ ts) = arg_found t.lexeme t.at ts

pub arg_again : (us : List Token) (a : RawArg) (rest : List Token) → ArgIs us a → argument (us ++ rest) ≡ Some (a, rest)
unfolding argument passed
arg_again _ _ rest (string_arg t s h) = by_first arg_by t rest h (read_then _ (string_again t rest _ (string_is t s h)) refl)
arg_again _ _ rest (number_arg t n h) = by_first arg_by t rest h (read_then _ (number_again t rest _ (number_is t n h)) refl)
arg_again _ _ rest (negative_arg m t n h k) = by_first arg_by m (t ∷ rest) h (read_then _ (number_again t rest _ (number_is t n k)) refl)
arg_again _ _ rest (variable_arg t v h) = by_first arg_by t rest h (read_then _ (variable_again t rest _ (variable_is t v h)) refl)

-- an argument doesn't begin with a bracket
arg_begins : (us : List Token) (a : RawArg) (rest : List Token) → ArgIs us a → sees_mark mark.CloseRound (us ++ rest) ≡ false
arg_begins _ _ rest (string_arg t s h) = unseen mark.CloseRound t rest h refl
arg_begins _ _ rest (number_arg t n h) = unseen mark.CloseRound t rest h refl
arg_begins _ _ rest (negative_arg m t n h k) = unseen mark.CloseRound m (t ∷ rest) h refl
arg_begins _ _ rest (variable_arg t v h) = unseen mark.CloseRound t rest h refl

-- ---- further ones, each after a comma

pub data CommaArg : List Token → RawArg → Type 0 where
  comma_arg : (c : Token) (ts : List Token) (a : RawArg) → IsMark mark.Comma c → ArgIs ts a → CommaArg (c ∷ ts) a

comma_takes : (ts : List Token) → OnRead (OnStep CommaArg ts) (behind_mark mark.Comma argument ts)
comma_takes ts = eaten mark.Comma ts _ _ (λ t mid e h. and_so (arg_takes mid) (λ a rest f. found (Some a) rest (record { front = t ∷ f.front; whole = e ∙ ap (λ us. t ∷ us) f.whole; is = comma_arg t f.front a h f.is }))) (found None ts refl)

comma_again : (us : List Token) (a : RawArg) (rest : List Token) → CommaArg us a → Unit {0} → behind_mark mark.Comma argument (us ++ rest) ≡ Some (Some a, rest)
comma_again _ _ rest (comma_arg c ts a h k) f = eats _ _ c (ts ++ rest) (sees mark.Comma c (ts ++ rest) h) (read_then _ (arg_again ts a rest k) refl)

comma_some : (us : List Token) (a : RawArg) → CommaArg us a → 0 < length us
comma_some _ _ (comma_arg c ts a h k) = omega arith

-- one argument, and further ones
data Parts : List Token → List RawArg → Type 0 where
  parts : (ts us : List Token) (a : RawArg) (xs : List RawArg) → ArgIs ts a → Several CommaArg us xs → Parts (ts ++ us) (a ∷ xs)

parts_of : (us : List Token) (xs : List RawArg) → ArgsAre us xs → Parts us xs
parts_of _ _ (last_arg ts a h) = subst (λ us. Parts us (a ∷ [])) (append-nil ts) (parts ts [] a [] h none)
parts_of _ _ (more_args ts us c a xs h k d) = behind us xs (parts_of us xs d)
  where
    behind : (us : List Token) (xs : List RawArg) → Parts us xs → Parts (ts ++ c ∷ us) (a ∷ xs)
    behind _ _ (parts vs ws b ys i s) = parts ts (c ∷ vs ++ ws) a (b ∷ ys) h (more (c ∷ vs) ws b ys (comma_arg c vs b k i) s)

of_parts : (ts us : List Token) (a : RawArg) (xs : List RawArg) → ArgIs ts a → Several CommaArg us xs → ArgsAre (ts ++ us) (a ∷ xs)
of_parts ts _ a _ h none = subst (λ us. ArgsAre us (a ∷ [])) (sym (append-nil ts)) (last_arg ts a h)
of_parts ts _ a _ h (more _ us _ xs (comma_arg c vs b k i) s) = more_args ts (vs ++ us) c a (b ∷ xs) h k (of_parts vs us b xs i s)

-- ---- all of them, and the bracket after

pub data InBrackets : List Token → List RawArg → Type 0 where
  no_args : (right : Token) → IsMark mark.CloseRound right → InBrackets (right ∷ []) []
  with_args : (ts : List Token) (xs : List RawArg) (right : Token) → ArgsAre ts xs → IsMark mark.CloseRound right → InBrackets (ts ++ right ∷ []) xs

pub args_takes : Takes InBrackets arguments
unfolding arguments more_arguments
args_takes ts = eaten mark.CloseRound ts _ _
    (λ t mid e h. found [] mid (record { front = t ∷ []; whole = e; is = no_args t h }))
    (and_so (arg_takes ts) (λ a s f. and_so (behind_takes CommaArg (behind_mark mark.Comma argument) comma_takes (a ∷ []) s) (λ xs u g. and_so (mark_takes mark.CloseRound u) (λ _ rest o.
    found xs rest (record {
      front = (f.front ++ g.front) ++ o.token ∷ [];
      whole = let p = append_assoc (f.front ++ g.front) (o.token ∷ []) rest in let q = append_assoc f.front g.front (o.token ∷ rest) in cc;
      is = with_args (f.front ++ g.front) xs o.token (subst (λ ys. ArgsAre (f.front ++ g.front) ys) (sym g.is.1) (of_parts f.front g.front a g.is.0 f.is g.is.2)) o.is;
    })))))

pub args_again : (us : List Token) (xs : List RawArg) (rest : List Token) → InBrackets us xs → arguments (us ++ rest) ≡ Some (xs, rest)
unfolding arguments more_arguments
args_again _ _ rest (no_args right h) = eats _ _ right rest (sees mark.CloseRound right rest h) refl
args_again _ _ rest (with_args ts xs right d h) = by ts xs (parts_of ts xs d)
  where
    by : (ts : List Token) (xs : List RawArg) → Parts ts xs → arguments ((ts ++ right ∷ []) ++ rest) ≡ Some (xs, rest)
    by _ _ (parts vs us a ys i s) =
        let all : ((vs ++ us) ++ right ∷ []) ++ rest ≡ vs ++ (us ++ right ∷ rest) = append_assoc (vs ++ us) (right ∷ []) rest ∙ append_assoc vs us (right ∷ rest) in
        rw all (leaves _ _ (vs ++ (us ++ right ∷ rest)) (arg_begins vs a (us ++ right ∷ rest) i)
        (read_then _ (arg_again vs a (us ++ right ∷ rest) i)
        (read_then _ (many_again CommaArg (behind_mark mark.Comma argument) (λ _. Unit {0}) comma_again (λ _ _ _ _. tt) comma_some us ys (right ∷ rest) s tt (leaves _ _ (right ∷ rest) (unseen mark.Comma right rest h refl) refl) (a ∷ []))
        (read_then _ (mark_again mark.CloseRound right rest h) refl))))
