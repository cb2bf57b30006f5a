-- Calls: what is read is derived, and what is derived is read.
use Rattle.std.specs.Prelude.{List, [], ◌∷◌, ◌++◌, Some}
use Rattle.std.proofs.Common.{◌≡◌, refl}
use Rattle.cfg_tree.specs.declared.token.Token.{Token}
use Rattle.cfg_tree.specs.declared.token.Lexeme.{Lexeme}
use Rattle.cfg_tree.specs.declared.token.Lexeme.TheVariants as lexeme
use Rattle.cfg_tree.specs.declared.token.Keyword.TheVariants as word_is
use Rattle.cfg_tree.specs.declared.token.Mark.TheVariants as mark
use Rattle.cfg_tree.specs.declared.raw.Word.{Word}
use Rattle.cfg_tree.specs.declared.raw.RawArg.{RawArg}
use Rattle.cfg_tree.specs.declared.raw.RawCall.{RawCall}
use Rattle.cfg_tree.specs.declared.raw.RawCall.TheVariants as call
use Rattle.cfg_tree.specs.Tokens.{IsMark, IsKeyword}
use Rattle.cfg_tree.specs.Grammar as tree
use Rattle.cfg_tree.specs.Grammar.{CallIs, plain_call, call_with}
use Rattle.cfg_parse.specs.Reader.{first}
use Rattle.cfg_parse.specs.Calls.{read_function_call, route_call, call_by, call_of}
use Rattle.cfg_parse.proofs.law.Steps.{OnRead, found, and_so, read_then, Front, Takes, mark_takes, keyword_takes, mark_again, keyword_again, by_first}
use Rattle.cfg_parse.proofs.law.OneToken.{NameIs, name_is, TargetIs, target_is, name_takes, target_takes, name_again, target_again}
use Rattle.cfg_parse.proofs.law.Arguments.{InBrackets, no_args, with_args, args_takes, args_again}

function_is : (f left : Token) (us : List Token) (w : Word) (xs : List RawArg) → NameIs f w → IsMark mark.OpenRound left → InBrackets us xs → CallIs (f ∷ left ∷ us) (call.Function w xs)
function_is _ left _ _ _ (name_is f s h) k (no_args right e) = plain_call f left right s h k e
function_is _ left _ _ _ (name_is f s h) k (with_args ts xs right d e) = call_with f left right ts s xs h k d e

route_is : (r left b right : Token) (w : Word) → IsKeyword word_is.Route r → IsMark mark.OpenRound left → TargetIs b w → IsMark mark.CloseRound right → CallIs (r ∷ left ∷ b ∷ right ∷ []) (call.Route w)
route_is r left _ right _ h k (target_is b s i) e = tree.route_call r left b right s h k i e

function_takes : Takes CallIs read_function_call
unfolding read_function_call
function_takes ts = and_so (name_takes ts) (λ w s n. and_so (mark_takes mark.OpenRound s) (λ _ u m. and_so (args_takes u) (λ xs rest f.
    found (call.Function w xs) rest (record { front = n.token ∷ m.token ∷ f.front; whole = cc; is = function_is n.token m.token f.front w xs n.is m.is f.is }))))

route_takes : Takes CallIs route_call
unfolding route_call
route_takes ts = and_so (keyword_takes word_is.Route ts) (λ _ s k. and_so (mark_takes mark.OpenRound s) (λ _ u m. and_so (target_takes u) (λ w v n. and_so (mark_takes mark.CloseRound v) (λ _ rest e.
    found (call.Route w) rest (record { front = k.token ∷ m.token ∷ n.token ∷ e.token ∷ []; whole = cc; is = route_is k.token m.token n.token e.token w k.is m.is n.is e.is })))))

call_found : (x : Lexeme) (ts : List Token) → OnRead (Front CallIs ts) (call_by (Some x) ts)
call_found (lexeme.Keyword word_is.Route) ts = route_takes ts
call_found _ ts = function_takes ts

pub call_takes : Takes CallIs call_of
unfolding call_of first
call_takes [] = function_takes []
call_takes (t ∷ ts) = call_found t.lexeme (t ∷ ts)

function_again : (f left : Token) (us : List Token) (w : Word) (xs : List RawArg) (rest : List Token) → NameIs f w → IsMark mark.OpenRound left → InBrackets us xs → read_function_call (f ∷ left ∷ us ++ rest) ≡ Some (call.Function w xs, rest)
unfolding read_function_call
function_again f left us w xs rest n k d = read_then _ (name_again f (left ∷ us ++ rest) w n) (read_then _ (mark_again mark.OpenRound left (us ++ rest) k) (read_then _ (args_again us xs rest d) refl))

pub call_again : (us : List Token) (c : RawCall) (rest : List Token) → CallIs us c → call_of (us ++ rest) ≡ Some (c, rest)
unfolding call_of route_call
call_again _ _ rest (plain_call f left right s h k e) = by_first call_by f (left ∷ right ∷ rest) h (function_again f left (right ∷ []) _ [] rest (name_is f s h) k (no_args right e))
call_again _ _ rest (call_with f left right ts s xs h k d e) = by_first call_by f (left ∷ (ts ++ right ∷ []) ++ rest) h (function_again f left (ts ++ right ∷ []) _ xs rest (name_is f s h) k (with_args ts xs right d e))
call_again _ _ rest (tree.route_call r left b right s h k i e) = by_first call_by r (left ∷ b ∷ right ∷ rest) h
    (read_then _ (keyword_again word_is.Route r (left ∷ b ∷ right ∷ rest) h) (read_then _ (mark_again mark.OpenRound left (b ∷ right ∷ rest) k) (read_then _ (target_again b (right ∷ rest) _ (target_is b s i)) (read_then _ (mark_again mark.CloseRound right rest e) refl))))
