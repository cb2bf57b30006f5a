-- Statements: what is derived is read.
use Rattle.std.specs.Prelude.{ℕ, zero, suc, ◌<◌, Bool, true, false, List, [], ◌∷◌, ◌++◌, length, Some, None, if◌then◌else◌}
use Rattle.std.proofs.Common.{◌≡◌, refl, sym, ap, subst, ◌∙◌, append_assoc}
use Rattle.std.proofs.lemmas.Bool.{both_ways}
use Rattle.pv_values.specs.declared.value.Val.{Val}
use Rattle.cfg_tree.specs.declared.token.Token.{Token}
use Rattle.cfg_tree.specs.declared.token.Keyword.TheVariants as word_is
use Rattle.cfg_tree.specs.declared.token.Mark.TheVariants as mark
use Rattle.cfg_tree.specs.declared.raw.RawStmt.{RawStmt}
use Rattle.cfg_tree.specs.declared.raw.RawStmt.TheOpen.{RawStmt-F}
use Rattle.cfg_tree.specs.declared.raw.RawStmt.TheViews.{roll-RawStmt}
use Rattle.cfg_tree.specs.Tokens.{IsMark}
use Rattle.cfg_tree.specs.Grammar as tree
use Rattle.cfg_tree.specs.Grammar.{StmtIs, StmtsAre, CasesAre, DefaultIs}
use Rattle.cfg_parse.specs.Reader.{Reader, ◌<$>◌, pure, first, behind_keyword, sees_keyword}
use Rattle.cfg_parse.specs.Stmts.{ends_list, next_stmt, stmts, if_of, while_of, group, case_of, cases, default, switch_of, stmt_by, stmt_over, stmt, body}
use Rattle.cfg_parse.proofs.law.Steps.{read_then, mark_again, keyword_again, unseen_word, by_first}
use Rattle.cfg_parse.proofs.law.Several.{Several, none, more, many_again}
use Rattle.cfg_parse.proofs.law.Operators.{at_first}
use Rattle.cfg_parse.proofs.law.Behind.{BehindWord, behind_word, behind_some, behind_again, behind_none}
use Rattle.cfg_parse.proofs.law.StmtTakes.{label_colon, SomeStmt, some_stmt, CaseBody, case_body}
use Rattle.cfg_parse.proofs.law.StmtBegins.{begins, goes_on, no_else, some_token, no_else_at_end}
use Rattle.cfg_parse.proofs.law.SimpleAgain.{condition_again, label_again, at_whole, set_again, do_again, return_alone_again, return_again, exit_again, drop_again, empty_again, break_again}

several_stmts : (room : ℕ) (loop : Bool) (us : List Token) (ss : List RawStmt) → StmtsAre room loop us ss → Several (SomeStmt room loop) us ss
several_stmts _ _ _ _ (tree.no_stmt room loop) = none
several_stmts _ _ _ _ (tree.one_more room loop dangles ts us s ss d r) = more ts us s ss (some_stmt dangles ts s d) (several_stmts room loop us ss r)

several_cases : (room : ℕ) (us : List Token) (xs : List (Val × List RawStmt)) → CasesAre room us xs → Several (BehindWord word_is.Case (CaseBody room)) us xs
several_cases _ _ _ (tree.no_case room) = none
several_cases _ _ _ (tree.one_case room ts us k t c v ss xs h i j d r) = more (k ∷ t ∷ c ∷ ts) us (v, ss) xs (behind_word k (t ∷ c ∷ ts) (v, ss) h (case_body (t ∷ c ∷ []) ts v ss (label_colon t c v i j) d)) (several_cases room us xs r)

module _ (room : ℕ) (inner : Bool → Reader RawStmt) (within : (loop dangles : Bool) (us : List Token) (s : RawStmt) (rest : List Token) → StmtIs room loop dangles us s → (dangles ≡ true → sees_keyword word_is.Else rest ≡ false) → inner loop (us ++ rest) ≡ Some (s, rest)) where
  next_again : (loop : Bool) (us : List Token) (s : RawStmt) (rest : List Token) → SomeStmt room loop us s → sees_keyword word_is.Else rest ≡ false → next_stmt inner loop (us ++ rest) ≡ Some (Some s, rest)
  next_again loop _ _ rest (some_stmt dangles us s d) f = subst (λ b. (if b then pure None else Some <$> inner loop) (us ++ rest) ≡ Some (Some s, rest)) (sym (goes_on us rest (begins room loop dangles us s d))) (read_then _ (within loop dangles us s rest d (λ _. f)) refl)

  next_starts : (loop : Bool) (us : List Token) (s : RawStmt) (rest : List Token) → SomeStmt room loop us s → sees_keyword word_is.Else (us ++ rest) ≡ false
  next_starts loop _ _ rest (some_stmt dangles us s d) = no_else us rest (begins room loop dangles us s d)

  next_some : (loop : Bool) (us : List Token) (s : RawStmt) → SomeStmt room loop us s → 0 < length us
  next_some loop _ _ (some_stmt dangles us s d) = some_token us (begins room loop dangles us s d)

  next_stops : (loop : Bool) (rest : List Token) → ends_list (first rest) ≡ true → next_stmt inner loop rest ≡ Some (None, rest)
  next_stops loop rest h = subst (λ b. (if b then pure None else Some <$> inner loop) rest ≡ Some (None, rest)) (sym h) refl

  pub stmts_again : (loop : Bool) (us : List Token) (ss : List RawStmt) (rest : List Token) → StmtsAre room loop us ss → ends_list (first rest) ≡ true → stmts inner loop (us ++ rest) ≡ Some (ss, rest)
  unfolding stmts
  stmts_again loop us ss rest d h = many_again (SomeStmt room loop) (next_stmt inner loop) (λ ts. sees_keyword word_is.Else ts ≡ false) (next_again loop) (next_starts loop) (next_some loop) us ss rest (several_stmts room loop us ss d) (no_else_at_end rest h) (next_stops loop rest h) []

  -- ---- cases and the default

  case_again : (us : List Token) (x : Val × List RawStmt) (rest : List Token) → CaseBody room us x → ends_list (first rest) ≡ true → case_of inner (us ++ rest) ≡ Some (x, rest)
  unfolding case_of
  case_again _ _ rest (case_body _ ts _ ss (label_colon t c v i j) d) h = read_then _ (label_again t c (ts ++ rest) v i j) (read_then _ (stmts_again true ts ss rest d h) refl)

  item_again : (us : List Token) (x : Val × List RawStmt) (rest : List Token) → BehindWord word_is.Case (CaseBody room) us x → ends_list (first rest) ≡ true → behind_keyword word_is.Case (case_of inner) (us ++ rest) ≡ Some (Some x, rest)
  item_again _ _ rest (behind_word k us x h d) f = behind_again word_is.Case (case_of inner) k (us ++ rest) h (case_again us x rest d f)

  item_starts : (us : List Token) (x : Val × List RawStmt) (rest : List Token) → BehindWord word_is.Case (CaseBody room) us x → ends_list (first (us ++ rest)) ≡ true
  item_starts _ _ rest (behind_word k us x h d) = at_first (λ o. ends_list o ≡ true) k (us ++ rest) h refl

  cases_again : (us : List Token) (xs : List (Val × List RawStmt)) (rest : List Token) → CasesAre room us xs → ends_list (first rest) ≡ true → sees_keyword word_is.Case rest ≡ false → cases inner (us ++ rest) ≡ Some (xs, rest)
  unfolding cases
  cases_again us xs rest d h k = many_again (BehindWord word_is.Case (CaseBody room)) (behind_keyword word_is.Case (case_of inner)) (λ ts. ends_list (first ts) ≡ true) item_again item_starts (behind_some word_is.Case (CaseBody room)) us xs rest (several_cases room us xs d) h (behind_none word_is.Case (case_of inner) rest k) []

  default_again : (vs : List Token) (last : List RawStmt) (d : Token) (rest : List Token) → DefaultIs room vs last → IsMark mark.CloseCurly d → default inner (vs ++ d ∷ rest) ≡ Some (last, d ∷ rest)
  unfolding default
  default_again _ _ d rest (tree.no_default _) h = read_then _ (behind_none word_is.Default _ (d ∷ rest) (unseen_word word_is.Default d rest h refl)) refl
  default_again _ _ d rest (tree.default_of _ ts k c ss i j s) h = read_then _ (behind_again word_is.Default _ k (c ∷ ts ++ d ∷ rest) i (read_then _ (mark_again mark.Colon c (ts ++ d ∷ rest) j) (stmts_again true ts ss (d ∷ rest) s (at_first (λ o. ends_list o ≡ true) d rest h refl)))) refl

  -- after the cases
  default_ends : (vs : List Token) (last : List RawStmt) (d : Token) (rest : List Token) → DefaultIs room vs last → IsMark mark.CloseCurly d → ends_list (first (vs ++ d ∷ rest)) ≡ true
  default_ends _ _ d rest (tree.no_default _) h = at_first (λ o. ends_list o ≡ true) d rest h refl
  default_ends _ _ d rest (tree.default_of _ ts k c ss i j s) h = at_first (λ o. ends_list o ≡ true) k (c ∷ ts ++ d ∷ rest) i refl

  no_case_left : (vs : List Token) (last : List RawStmt) (d : Token) (rest : List Token) → DefaultIs room vs last → IsMark mark.CloseCurly d → sees_keyword word_is.Case (vs ++ d ∷ rest) ≡ false
  no_case_left _ _ d rest (tree.no_default _) h = unseen_word word_is.Case d rest h refl
  no_case_left _ _ d rest (tree.default_of _ ts k c ss i j s) h = unseen_word word_is.Case k (c ∷ ts ++ d ∷ rest) i refl

  -- ---- statements

  pub stmt_over_again : (loop dangles : Bool) (us : List Token) (s : RawStmt) (rest : List Token) → StmtIs (suc room) loop dangles us s → (dangles ≡ true → sees_keyword word_is.Else rest ≡ false) → stmt_over inner loop (us ++ rest) ≡ Some (s, rest)
  unfolding stmt_over if_of while_of switch_of group
  stmt_over_again _ _ _ _ rest (tree.if_alone _ loop dangles all ts us i o c e s p h k d l r) f =
      let w : all ++ rest ≡ i ∷ o ∷ (ts ++ c ∷ (us ++ rest)) = ap (λ vs. vs ++ rest) p ∙ ap (λ vs. i ∷ o ∷ vs) (append_assoc ts (c ∷ us) rest) in
      ap (stmt_over inner loop) w ∙ by_first (stmt_by inner loop) i (o ∷ (ts ++ c ∷ (us ++ rest))) h
      (read_then _ (keyword_again word_is.If i (o ∷ (ts ++ c ∷ (us ++ rest))) h)
      (read_then _ (condition_again o c ts (us ++ rest) e k d l)
      (read_then _ (within loop dangles us s rest r (λ _. f refl))
      (read_then _ (behind_none word_is.Else (inner loop) rest (f refl))
      (at_whole (λ at. roll-RawStmt (RawStmt-F.If at e s None)) (i ∷ o ∷ (ts ++ c ∷ (us ++ rest))) all rest w)))))
  stmt_over_again _ _ _ _ rest (tree.if_else _ loop dangles all ts us vs i o c l e s other p h k d m r n q) f =
      let w : all ++ rest ≡ i ∷ o ∷ (ts ++ c ∷ (us ++ l ∷ (vs ++ rest))) = ap (λ vs. vs ++ rest) p ∙ ap (λ vs. i ∷ o ∷ vs) (append_assoc (ts ++ c ∷ us) (l ∷ vs) rest ∙ append_assoc ts (c ∷ us) (l ∷ vs ++ rest)) in
      ap (stmt_over inner loop) w ∙ by_first (stmt_by inner loop) i (o ∷ (ts ++ c ∷ (us ++ l ∷ (vs ++ rest)))) h
      (read_then _ (keyword_again word_is.If i (o ∷ (ts ++ c ∷ (us ++ l ∷ (vs ++ rest)))) h)
      (read_then _ (condition_again o c ts (us ++ l ∷ (vs ++ rest)) e k d m)
      (read_then _ (within loop false us s (l ∷ (vs ++ rest)) r (λ b. absurd (both_ways false refl b)))
      (read_then _ (behind_again word_is.Else (inner loop) l (vs ++ rest) n (within loop dangles vs other rest q f))
      (at_whole (λ at. roll-RawStmt (RawStmt-F.If at e s (Some other))) (i ∷ o ∷ (ts ++ c ∷ (us ++ l ∷ (vs ++ rest)))) all rest w)))))
  stmt_over_again _ _ _ _ rest (tree.while_true _ loop dangles all ts us i o c e s p h k d l r) f =
      let w : all ++ rest ≡ i ∷ o ∷ (ts ++ c ∷ (us ++ rest)) = ap (λ vs. vs ++ rest) p ∙ ap (λ vs. i ∷ o ∷ vs) (append_assoc ts (c ∷ us) rest) in
      ap (stmt_over inner loop) w ∙ by_first (stmt_by inner loop) i (o ∷ (ts ++ c ∷ (us ++ rest))) h
      (read_then _ (keyword_again word_is.While i (o ∷ (ts ++ c ∷ (us ++ rest))) h)
      (read_then _ (condition_again o c ts (us ++ rest) e k d l)
      (read_then _ (within true dangles us s rest r f)
      (at_whole (λ at. roll-RawStmt (RawStmt-F.While at e s)) (i ∷ o ∷ (ts ++ c ∷ (us ++ rest))) all rest w))))
  stmt_over_again _ _ _ _ rest (tree.switch_on _ loop all ts us vs i o c b z e xs last p h k d l m q r n) f =
      let w : all ++ rest ≡ i ∷ o ∷ (ts ++ c ∷ b ∷ (us ++ (vs ++ z ∷ rest))) = ap (λ vs. vs ++ rest) p ∙ ap (λ vs. i ∷ o ∷ vs) (append_assoc ((ts ++ c ∷ b ∷ us) ++ vs) (z ∷ []) rest ∙ append_assoc (ts ++ c ∷ b ∷ us) vs (z ∷ rest) ∙ append_assoc ts (c ∷ b ∷ us) (vs ++ z ∷ rest)) in
      ap (stmt_over inner loop) w ∙ by_first (stmt_by inner loop) i (o ∷ (ts ++ c ∷ b ∷ (us ++ (vs ++ z ∷ rest)))) h
      (read_then _ (keyword_again word_is.Switch i (o ∷ (ts ++ c ∷ b ∷ (us ++ (vs ++ z ∷ rest)))) h)
      (read_then _ (condition_again o c ts (b ∷ (us ++ (vs ++ z ∷ rest))) e k d l)
      (read_then _ (mark_again mark.OpenCurly b (us ++ (vs ++ z ∷ rest)) m)
      (read_then _ (cases_again us xs (vs ++ z ∷ rest) q (default_ends vs last z rest r n) (no_case_left vs last z rest r n))
      (read_then _ (default_again vs last z rest r n)
      (read_then _ (mark_again mark.CloseCurly z rest n)
      (at_whole (λ at. roll-RawStmt (RawStmt-F.Switch at e xs last)) (i ∷ o ∷ (ts ++ c ∷ b ∷ (us ++ (vs ++ z ∷ rest)))) all rest w)))))))
  stmt_over_again _ _ _ _ rest (tree.assigned _ loop all ts t a c v e p h k d l) f = set_again inner loop all ts t a c v e rest p h k d l
  stmt_over_again _ _ _ _ rest (tree.called _ loop all ts c g p d h) f = do_again inner loop all ts c g rest p d h
  stmt_over_again _ _ _ _ rest (tree.return_alone _ loop r c h k) f = return_alone_again inner loop r c rest h k
  stmt_over_again _ _ _ _ rest (tree.return_of _ loop all ts r c e p h d k) f = return_again inner loop all ts r c e rest p h d k
  stmt_over_again _ _ _ _ rest (tree.exits _ loop t c h k) f = exit_again inner loop t c rest h k
  stmt_over_again _ _ _ _ rest (tree.drops _ loop t c h k) f = drop_again inner loop t c rest h k
  stmt_over_again _ _ _ _ rest (tree.breaks _ t c h k) f = break_again inner t c rest h k
  stmt_over_again _ _ _ _ rest (tree.group_of _ loop all ts b z ss p h d k) f =
      let w : all ++ rest ≡ b ∷ (ts ++ z ∷ rest) = ap (λ vs. vs ++ rest) p ∙ ap (λ vs. b ∷ vs) (append_assoc ts (z ∷ []) rest) in
      ap (stmt_over inner loop) w ∙ by_first (stmt_by inner loop) b (ts ++ z ∷ rest) h
      (read_then _ (mark_again mark.OpenCurly b (ts ++ z ∷ rest) h)
      (read_then _ (stmts_again loop ts ss (z ∷ rest) d (at_first (λ o. ends_list o ≡ true) z rest k refl))
      (read_then _ (mark_again mark.CloseCurly z rest k)
      (at_whole (λ at. roll-RawStmt (RawStmt-F.Group at ss)) (b ∷ (ts ++ z ∷ rest)) all rest w))))
  stmt_over_again _ _ _ _ rest (tree.empty _ loop c h) f = empty_again inner loop c rest h

stmt_again : (room : ℕ) (loop dangles : Bool) (us : List Token) (s : RawStmt) (rest : List Token) → StmtIs room loop dangles us s → (dangles ≡ true → sees_keyword word_is.Else rest ≡ false) → stmt room loop (us ++ rest) ≡ Some (s, rest)
unfolding stmt
stmt_again zero loop dangles us s rest d f = elim d [ ]
stmt_again (suc room) loop dangles us s rest d f = stmt_over_again room (stmt room) (stmt_again room) loop dangles us s rest d f

pub body_again : (us : List Token) (ss : List RawStmt) (rest : List Token) → StmtsAre 64 false us ss → ends_list (first rest) ≡ true → body (us ++ rest) ≡ Some (ss, rest)
unfolding body
body_again us ss rest d h = stmts_again 64 (stmt 64) (stmt_again 64) false us ss rest d h
