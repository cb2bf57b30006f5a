-- Statements without others in them: what is derived is read.
use Rattle.std.specs.Prelude.{Bool, true, List, [], ◌∷◌, ◌++◌, Option, Some, None}
use Rattle.std.proofs.Common.{◌≡◌, refl, sym, ap, ◌∙◌, append_assoc}
use Rattle.pv_values.specs.declared.value.Val.{Val}
use Rattle.pv_values.specs.declared.refusal.Place.{Place}
use Rattle.cfg_tree.specs.declared.token.Token.{Token}
use Rattle.cfg_tree.specs.declared.token.Variable.{Variable}
use Rattle.cfg_tree.specs.declared.token.Lexeme.TheVariants as lexeme
use Rattle.cfg_tree.specs.declared.token.Keyword.{Keyword}
use Rattle.cfg_tree.specs.declared.token.Keyword.TheVariants as word_is
use Rattle.cfg_tree.specs.declared.token.Mark.TheVariants as mark
use Rattle.cfg_tree.specs.declared.raw.RawCall.{RawCall}
use Rattle.cfg_tree.specs.declared.raw.RawExpr.{RawExpr}
use Rattle.cfg_tree.specs.declared.raw.RawStmt.{RawStmt}
use Rattle.cfg_tree.specs.declared.raw.RawStmt.TheOpen.{RawStmt-F}
use Rattle.cfg_tree.specs.declared.raw.RawStmt.TheViews.{roll-RawStmt}
use Rattle.cfg_tree.specs.Tokens.{IsA, IsMark, IsKeyword, whole}
use Rattle.cfg_tree.specs.Grammar as tree
use Rattle.cfg_tree.specs.Grammar.{IsExpr, CallIs, LabelIs}
use Rattle.cfg_parse.specs.Reader.{Reader, place_since}
use Rattle.cfg_parse.specs.Stmts.{condition, assignment, call_alone, read_returned, return_of, alone, empty, label_in, label, stmt_by, stmt_over}
use Rattle.cfg_parse.proofs.law.Steps.{read_then, mark_again, keyword_again, sees, eats, leaves, by_first}
use Rattle.cfg_parse.proofs.law.OneToken.{variable_is, variable_again, one_again}
use Rattle.cfg_parse.proofs.law.Calls.{call_again}
use Rattle.cfg_parse.proofs.law.Begins.{no_semicolon}
use Rattle.cfg_parse.proofs.law.ExprAgain.{expr_again, closes, ends_stmt}
use Rattle.cfg_parse.proofs.law.Places.{placed}

pub condition_again : (o c : Token) (ts rest : List Token) (e : RawExpr) → IsMark mark.OpenRound o → IsExpr ts e → IsMark mark.CloseRound c → condition (o ∷ ts ++ c ∷ rest) ≡ Some (e, rest)
unfolding condition
condition_again o c ts rest e h d k = read_then _ (mark_again mark.OpenRound o (ts ++ c ∷ rest) h) (read_then _ (expr_again ts e (c ∷ rest) d (closes c rest k)) (read_then _ (mark_again mark.CloseRound c rest k) refl))

pub label_again : (t c : Token) (rest : List Token) (v : Val) → LabelIs t v → IsMark mark.Colon c → label (t ∷ c ∷ rest) ≡ Some (v, rest)
unfolding label
label_again _ c rest _ (tree.number_label t n h) k = read_then _ (one_again label_in t (c ∷ rest) h refl) (read_then _ (mark_again mark.Colon c rest k) refl)
label_again _ c rest _ (tree.string_label t s h) k = read_then _ (one_again label_in t (c ∷ rest) h refl) (read_then _ (mark_again mark.Colon c rest k) refl)

-- the place of what was read
pub at_whole : (make : Place → RawStmt) (start us rest : List Token) → us ++ rest ≡ start → ◌≡◌ {A = Option (RawStmt × List Token)} (Some (make (place_since start rest), rest)) (Some (make (whole us), rest))
at_whole make start us rest e = ap (λ (at : Place). Some (make at, rest)) (placed start us rest (sym e))

alone_again : (k : Keyword) (t c : Token) (rest : List Token) → IsKeyword k t → IsMark mark.Semicolon c → alone k (t ∷ c ∷ rest) ≡ Some (whole (t ∷ c ∷ []), rest)
unfolding alone
alone_again k t c rest h d = read_then _ (keyword_again k t (c ∷ rest) h) (read_then _ (mark_again mark.Semicolon c rest d) (ap (λ (at : Place). Some (at, rest)) (placed (t ∷ c ∷ rest) (t ∷ c ∷ []) rest refl)))

module _ (inner : Bool → Reader RawStmt) (loop : Bool) where
  pub set_again : (us ts : List Token) (t a c : Token) (v : Variable) (e : RawExpr) (rest : List Token) → us ≡ t ∷ a ∷ ts ++ c ∷ [] → IsA (lexeme.Variable v) t → IsMark mark.Assign a → IsExpr ts e → IsMark mark.Semicolon c → stmt_over inner loop (us ++ rest) ≡ Some (roll-RawStmt (RawStmt-F.Set (whole us) (record { variable = v; at = t.at }) e), rest)
  unfolding stmt_over assignment
  set_again us ts t a c v e rest p h k d l =
      let w : us ++ rest ≡ t ∷ a ∷ (ts ++ c ∷ rest) = ap (λ vs. vs ++ rest) p ∙ ap (λ vs. t ∷ a ∷ vs) (append_assoc ts (c ∷ []) rest) in
      ap (stmt_over inner loop) w ∙ by_first (stmt_by inner loop) t (a ∷ (ts ++ c ∷ rest)) h
      (read_then _ (variable_again t (a ∷ (ts ++ c ∷ rest)) _ (variable_is t v h))
      (read_then _ (mark_again mark.Assign a (ts ++ c ∷ rest) k)
      (read_then _ (expr_again ts e (c ∷ rest) d (ends_stmt c rest l))
      (read_then _ (mark_again mark.Semicolon c rest l)
      (at_whole (λ at. roll-RawStmt (RawStmt-F.Set at (record { variable = v; at = t.at }) e)) (t ∷ a ∷ (ts ++ c ∷ rest)) us rest w)))))

  call_first : (ts : List Token) (f : RawCall) (rest : List Token) → CallIs ts f → stmt_over inner loop (ts ++ rest) ≡ call_alone (ts ++ rest)
  unfolding stmt_over
  call_first _ _ rest (tree.plain_call f left right s h k e) = by_first (stmt_by inner loop) f (left ∷ right ∷ rest) h refl
  call_first _ _ rest (tree.call_with f left right ts s xs h k d e) = by_first (stmt_by inner loop) f (left ∷ (ts ++ right ∷ []) ++ rest) h refl
  call_first _ _ rest (tree.route_call r left b right s h k i e) = by_first (stmt_by inner loop) r (left ∷ b ∷ right ∷ rest) h refl

  pub do_again : (us ts : List Token) (c : Token) (f : RawCall) (rest : List Token) → us ≡ ts ++ c ∷ [] → CallIs ts f → IsMark mark.Semicolon c → stmt_over inner loop (us ++ rest) ≡ Some (roll-RawStmt (RawStmt-F.Do (whole us) f), rest)
  unfolding call_alone
  do_again us ts c f rest p d h =
      let w : us ++ rest ≡ ts ++ c ∷ rest = ap (λ vs. vs ++ rest) p ∙ append_assoc ts (c ∷ []) rest in
      ap (stmt_over inner loop) w ∙ call_first ts f (c ∷ rest) d ∙ read_then _ (call_again ts f (c ∷ rest) d)
      (read_then _ (mark_again mark.Semicolon c rest h)
      (at_whole (λ at. roll-RawStmt (RawStmt-F.Do at f)) (ts ++ c ∷ rest) us rest w))

  pub return_alone_again : (r c : Token) (rest : List Token) → IsKeyword word_is.Return r → IsMark mark.Semicolon c → stmt_over inner loop (r ∷ c ∷ rest) ≡ Some (roll-RawStmt (RawStmt-F.Return (whole (r ∷ c ∷ [])) None), rest)
  unfolding stmt_over return_of read_returned
  return_alone_again r c rest h k = by_first (stmt_by inner loop) r (c ∷ rest) h
      (read_then _ (keyword_again word_is.Return r (c ∷ rest) h)
      (read_then _ (eats _ _ c rest (sees mark.Semicolon c rest k) refl)
      (at_whole (λ at. roll-RawStmt (RawStmt-F.Return at None)) (r ∷ c ∷ rest) (r ∷ c ∷ []) rest refl)))

  pub return_again : (us ts : List Token) (r c : Token) (e : RawExpr) (rest : List Token) → us ≡ r ∷ ts ++ c ∷ [] → IsKeyword word_is.Return r → IsExpr ts e → IsMark mark.Semicolon c → stmt_over inner loop (us ++ rest) ≡ Some (roll-RawStmt (RawStmt-F.Return (whole us) (Some e)), rest)
  unfolding stmt_over return_of read_returned
  return_again us ts r c e rest p h d k =
      let w : us ++ rest ≡ r ∷ (ts ++ c ∷ rest) = ap (λ vs. vs ++ rest) p ∙ ap (λ vs. r ∷ vs) (append_assoc ts (c ∷ []) rest) in
      ap (stmt_over inner loop) w ∙ by_first (stmt_by inner loop) r (ts ++ c ∷ rest) h
      (read_then _ (keyword_again word_is.Return r (ts ++ c ∷ rest) h)
      (read_then _ (leaves _ _ (ts ++ c ∷ rest) (no_semicolon 31 ts e (c ∷ rest) d)
      (read_then _ (expr_again ts e (c ∷ rest) d (ends_stmt c rest k)) (read_then _ (mark_again mark.Semicolon c rest k) refl)))
      (at_whole (λ at. roll-RawStmt (RawStmt-F.Return at (Some e))) (r ∷ (ts ++ c ∷ rest)) us rest w)))

  pub exit_again : (t c : Token) (rest : List Token) → IsKeyword word_is.Exit t → IsMark mark.Semicolon c → stmt_over inner loop (t ∷ c ∷ rest) ≡ Some (roll-RawStmt (RawStmt-F.Exit (whole (t ∷ c ∷ []))), rest)
  unfolding stmt_over
  exit_again t c rest h k = by_first (stmt_by inner loop) t (c ∷ rest) h (read_then _ (alone_again word_is.Exit t c rest h k) refl)

  pub drop_again : (t c : Token) (rest : List Token) → IsKeyword word_is.Drop t → IsMark mark.Semicolon c → stmt_over inner loop (t ∷ c ∷ rest) ≡ Some (roll-RawStmt (RawStmt-F.Drop (whole (t ∷ c ∷ []))), rest)
  unfolding stmt_over
  drop_again t c rest h k = by_first (stmt_by inner loop) t (c ∷ rest) h (read_then _ (alone_again word_is.Drop t c rest h k) refl)

  pub empty_again : (c : Token) (rest : List Token) → IsMark mark.Semicolon c → stmt_over inner loop (c ∷ rest) ≡ Some (roll-RawStmt (RawStmt-F.Empty (whole (c ∷ []))), rest)
  unfolding stmt_over empty
  empty_again c rest h = by_first (stmt_by inner loop) c rest h
      (read_then _ (mark_again mark.Semicolon c rest h)
      (at_whole (λ at. roll-RawStmt (RawStmt-F.Empty at)) (c ∷ rest) (c ∷ []) rest refl))

pub break_again : (inner : Bool → Reader RawStmt) (t c : Token) (rest : List Token) → IsKeyword word_is.Break t → IsMark mark.Semicolon c → stmt_over inner true (t ∷ c ∷ rest) ≡ Some (roll-RawStmt (RawStmt-F.Break (whole (t ∷ c ∷ []))), rest)
unfolding stmt_over
break_again inner t c rest h k = by_first (stmt_by inner true) t (c ∷ rest) h (read_then _ (alone_again word_is.Break t c rest h k) refl)
