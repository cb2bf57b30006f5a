-- Statements: what is read is derived.
use Rattle.std.specs.Prelude.{ℕ, zero, suc, pos, Bool, true, false, List, [], ◌∷◌, ◌++◌, Option, Some, None, IfSome, if◌then◌else◌}
use Rattle.std.proofs.Common.{◌≡◌, refl, sym, ap, ◌∙◌, append_assoc}
use Rattle.std.proofs.lemmas.Bool.{both_ways}
use Rattle.pv_values.specs.declared.value.Val.{Val}
use Rattle.pv_values.specs.declared.refusal.Place.{Place}
use Rattle.cfg_tree.specs.declared.token.Token.{Token}
use Rattle.cfg_tree.specs.declared.token.Lexeme.{Lexeme}
use Rattle.cfg_tree.specs.declared.token.Lexeme.TheVariants as lexeme
use Rattle.cfg_tree.specs.declared.token.Keyword.TheVariants as word_is
use Rattle.cfg_tree.specs.declared.token.Mark.TheVariants as mark
use Rattle.cfg_tree.specs.declared.raw.RawExpr.{RawExpr}
use Rattle.cfg_tree.specs.declared.raw.RawStmt.{RawStmt}
use Rattle.cfg_tree.specs.declared.raw.RawStmt.TheOpen.{RawStmt-F}
use Rattle.cfg_tree.specs.declared.raw.RawStmt.TheViews.{roll-RawStmt}
use Rattle.cfg_tree.specs.Tokens.{IsMark, IsKeyword, whole}
use Rattle.cfg_tree.specs.Grammar as tree
use Rattle.cfg_tree.specs.Grammar.{StmtIs, StmtsAre, CasesAre, DefaultIs, LabelIs}
use Rattle.cfg_parse.specs.Reader.{Reader, ◌>>◌, ◌<$>◌, pure, first, mark_of, behind_keyword, sees_keyword, place_since}
use Rattle.cfg_parse.specs.Stmts.{label_in, label, ends_list, next_stmt, stmts, if_of, while_of, group, case_of, cases, default_by, default, switch_of, stmt_by, stmt_over, stmt, body}
use Rattle.cfg_parse.proofs.law.Steps.{OnRead, nothing, found, and_so, Front, Takes, weaker, mark_takes, keyword_takes, eaten_word, sees_word}
use Rattle.cfg_parse.proofs.law.Several.{Several, none, more, OnStep, many_takes}
use Rattle.cfg_parse.proofs.law.OneToken.{one_takes}
use Rattle.cfg_parse.proofs.law.Behind.{BehindWord, behind_word, behind_word_takes}
use Rattle.cfg_parse.proofs.law.Simple.{ConditionIs, condition_is, condition_takes, StmtFound, at_place, simple, assignment_takes, call_alone_takes, exit_takes, drop_takes, empty_takes, break_takes, return_takes}

-- ---- labels

label_read : (x : Lexeme) (at : Place) → IfSome (label_in x at) (λ v. LabelIs (record { lexeme = x; at = at }) v)
label_read (lexeme.Number (pos n)) at = tree.number_label (record { lexeme = lexeme.Number (pos n); at = at }) n refl
label_read (lexeme.String s) at = tree.string_label (record { lexeme = lexeme.String s; at = at }) s refl
label_read _ at = tt

pub data LabelColon : List Token → Val → Type 0 where
  label_colon : (t c : Token) (v : Val) → LabelIs t v → IsMark mark.Colon c → LabelColon (t ∷ c ∷ []) v

label_takes : Takes LabelColon label
unfolding label
label_takes ts = and_so (one_takes LabelIs label_in label_read ts) (λ v s t. and_so (mark_takes mark.Colon s) (λ _ rest c. found v rest (record { front = t.token ∷ c.token ∷ []; whole = cc; is = label_colon t.token c.token v t.is c.is })))

-- ---- what the parts are

pub data SomeStmt (room : ℕ) (loop : Bool) : List Token → RawStmt → Type 0 where
  some_stmt : (dangles : Bool) (ts : List Token) (s : RawStmt) → StmtIs room loop dangles ts s → SomeStmt room loop ts s

of_stmts : (room : ℕ) (loop : Bool) (us : List Token) (ss : List RawStmt) → Several (SomeStmt room loop) us ss → StmtsAre room loop us ss
of_stmts room loop _ _ none = tree.no_stmt room loop
of_stmts room loop _ _ (more _ us _ ss (some_stmt dangles ts s d) r) = tree.one_more room loop dangles ts us s ss d (of_stmts room loop us ss r)

pub data CaseBody (room : ℕ) : List Token → Val × List RawStmt → Type 0 where
  case_body : (ls ts : List Token) (v : Val) (ss : List RawStmt) → LabelColon ls v → StmtsAre room true ts ss → CaseBody room (ls ++ ts) (v, ss)

one_case_is : (room : ℕ) (k : Token) (ls ts us : List Token) (v : Val) (ss : List RawStmt) (xs : List (Val × List RawStmt)) → IsKeyword word_is.Case k → LabelColon ls v → StmtsAre room true ts ss → CasesAre room us xs → CasesAre room (k ∷ (ls ++ ts) ++ us) ((v, ss) ∷ xs)
one_case_is room k _ ts us _ ss xs h (label_colon t c v i j) d r = tree.one_case room ts us k t c v ss xs h i j d r

of_cases : (room : ℕ) (us : List Token) (xs : List (Val × List RawStmt)) → Several (BehindWord word_is.Case (CaseBody room)) us xs → CasesAre room us xs
of_cases room _ _ none = tree.no_case room
of_cases room _ _ (more _ us _ xs (behind_word k _ _ h (case_body ls ts v ss i d)) r) = one_case_is room k ls ts us v ss xs h i d (of_cases room us xs r)

pub data ColonStmts (room : ℕ) : List Token → List RawStmt → Type 0 where
  colon_stmts : (c : Token) (ts : List Token) (ss : List RawStmt) → IsMark mark.Colon c → StmtsAre room true ts ss → ColonStmts room (c ∷ ts) ss

default_is : (room : ℕ) (us : List Token) (ss : List RawStmt) → BehindWord word_is.Default (ColonStmts room) us ss → DefaultIs room us ss
default_is room _ _ (behind_word k _ _ h (colon_stmts c ts ss i d)) = tree.default_of room ts k c ss h i d

-- ---- statements with others in them, whole

if_alone_is : (room : ℕ) (loop dangles : Bool) (i : Token) (cs us : List Token) (e : RawExpr) (s : RawStmt) → IsKeyword word_is.If i → ConditionIs cs e → StmtIs room loop dangles us s → StmtIs (suc room) loop true (i ∷ cs ++ us) (roll-RawStmt (RawStmt-F.If (whole (i ∷ cs ++ us)) e s None))
if_alone_is room loop dangles i _ us _ s h (condition_is o c ts e j d k) r = tree.if_alone room loop dangles (i ∷ (o ∷ ts ++ c ∷ []) ++ us) ts us i o c e s (ap (λ us. i ∷ o ∷ us) (append_assoc ts (c ∷ []) us)) h j d k r

if_else_is : (room : ℕ) (loop before dangles : Bool) (i l : Token) (cs us vs : List Token) (e : RawExpr) (s other : RawStmt) → IsKeyword word_is.If i → ConditionIs cs e → StmtIs room loop before us s → (before ≡ true → ⊥) → IsKeyword word_is.Else l → StmtIs room loop dangles vs other → StmtIs (suc room) loop dangles (i ∷ cs ++ (us ++ l ∷ vs)) (roll-RawStmt (RawStmt-F.If (whole (i ∷ cs ++ (us ++ l ∷ vs))) e s (Some other)))
if_else_is room loop true dangles i l _ us vs _ s other h (condition_is o c ts e j d k) r f m q = absurd (f refl)
if_else_is room loop false dangles i l _ us vs _ s other h (condition_is o c ts e j d k) r f m q =
    tree.if_else room loop dangles (i ∷ (o ∷ ts ++ c ∷ []) ++ (us ++ l ∷ vs)) ts us vs i o c l e s other
    (ap (λ us. i ∷ o ∷ us) (append_assoc ts (c ∷ []) (us ++ l ∷ vs) ∙ sym (append_assoc ts (c ∷ us) (l ∷ vs)))) h j d k r m q

while_is : (room : ℕ) (loop dangles : Bool) (i : Token) (cs us : List Token) (e : RawExpr) (s : RawStmt) → IsKeyword word_is.While i → ConditionIs cs e → StmtIs room true dangles us s → StmtIs (suc room) loop dangles (i ∷ cs ++ us) (roll-RawStmt (RawStmt-F.While (whole (i ∷ cs ++ us)) e s))
while_is room loop dangles i _ us _ s h (condition_is o c ts e j d k) r = tree.while_true room loop dangles (i ∷ (o ∷ ts ++ c ∷ []) ++ us) ts us i o c e s (ap (λ us. i ∷ o ∷ us) (append_assoc ts (c ∷ []) us)) h j d k r

switch_is : (room : ℕ) (loop : Bool) (w b d : Token) (cs us vs : List Token) (e : RawExpr) (xs : List (Val × List RawStmt)) (last : List RawStmt) → IsKeyword word_is.Switch w → ConditionIs cs e → IsMark mark.OpenCurly b → CasesAre room us xs → DefaultIs room vs last → IsMark mark.CloseCurly d → StmtIs (suc room) loop false (w ∷ cs ++ b ∷ (us ++ (vs ++ d ∷ []))) (roll-RawStmt (RawStmt-F.Switch (whole (w ∷ cs ++ b ∷ (us ++ (vs ++ d ∷ [])))) e xs last))
switch_is room loop w b d _ us vs _ xs last h (condition_is o c ts e j i k) m q r n =
    tree.switch_on room loop (w ∷ (o ∷ ts ++ c ∷ []) ++ b ∷ (us ++ (vs ++ d ∷ []))) ts us vs w o c b d e xs last
    (ap (λ us. w ∷ o ∷ us) (append_assoc ts (c ∷ []) (b ∷ (us ++ (vs ++ d ∷ []))) ∙ sym (append_assoc ts (c ∷ b ∷ us) (vs ++ d ∷ [])) ∙ sym (append_assoc (ts ++ c ∷ b ∷ us) vs (d ∷ []))))
    h j i k m q r n

-- ---- what is read

-- an `else`, or none
abbrev pub ElseFound : ℕ → Bool → List Token → Option RawStmt → List Token → Type 0
ElseFound room loop ts None rest = (ts ≡ rest) × (sees_keyword word_is.Else rest ≡ false)
ElseFound room loop ts (Some s) rest = (l : Token) × (mid : List Token) × (ts ≡ l ∷ mid) × IsKeyword word_is.Else l × StmtFound room loop mid s rest

module _ (room : ℕ) (inner : Bool → Reader RawStmt) (within : (loop : Bool) (ts : List Token) → OnRead (StmtFound room loop ts) (inner loop ts)) where
  next_takes : (loop : Bool) (ts : List Token) → OnRead (OnStep (SomeStmt room loop) ts) (next_stmt inner loop ts)
  next_takes loop ts = by (ends_list (first ts))
    where
      by : (b : Bool) → OnRead (OnStep (SomeStmt room loop) ts) ((if b then pure None else Some <$> inner loop) ts)
      by true = found None ts refl
      by false = and_so (within loop ts) (λ s rest f. found (Some s) rest (record { front = f.front; whole = f.whole; is = some_stmt f.dangles f.front s f.is }))

  pub stmts_takes : (loop : Bool) → Takes (StmtsAre room loop) (stmts inner loop)
  unfolding stmts
  stmts_takes loop ts = weaker (many_takes (SomeStmt room loop) (next_stmt inner loop) (next_takes loop) ts) (λ ss rest f. record { front = f.front; whole = f.whole; is = of_stmts room loop f.front ss f.is })

  else_takes : (loop : Bool) (ts : List Token) → OnRead (ElseFound room loop ts) (behind_keyword word_is.Else (inner loop) ts)
  else_takes loop ts = eaten_word word_is.Else ts _ _ (λ l mid e h. and_so (within loop mid) (λ s rest f. found (Some s) rest (l, mid, e, h, f))) (λ h. found None ts (refl, h))

  if_takes : (loop : Bool) (ts : List Token) → OnRead (StmtFound (suc room) loop ts) (if_of inner loop ts)
  unfolding if_of
  if_takes loop ts = and_so (keyword_takes word_is.If ts) (λ _ u i. and_so (condition_takes u) (λ e v c. and_so (within loop v) (λ s w f. and_so (else_takes loop w) (λ other rest g.
      found _ rest (by i.token u i.whole i.is e v c s w f other rest g)))))
    where
      by : (i : Token) (u : List Token) → ts ≡ i ∷ u → IsKeyword word_is.If i → (e : RawExpr) (v : List Token) → Front ConditionIs u e v → (s : RawStmt) (w : List Token) → StmtFound room loop v s w → (other : Option RawStmt) (rest : List Token) → ElseFound room loop w other rest → StmtFound (suc room) loop ts (roll-RawStmt (RawStmt-F.If (place_since ts rest) e s other)) rest
      by i u p h e v c s w f None rest g = at_place (suc room) loop true (λ at. roll-RawStmt (RawStmt-F.If at e s None)) ts (i ∷ c.front ++ f.front) rest
          (p ∙ ap (λ us. i ∷ us) (c.whole ∙ ap (λ us. c.front ++ us) (f.whole ∙ ap (λ us. f.front ++ us) g.0) ∙ sym (append_assoc c.front f.front rest)))
          (if_alone_is room loop f.dangles i c.front f.front e s h c.is f.is) (λ _. g.1)
      by i u p h e v c s w f (Some other) rest g =
          let l = g.0 in
          let after = g.4 in
          let q = append_assoc c.front (f.front ++ l ∷ after.front) rest in
          let r = append_assoc f.front (l ∷ after.front) rest in
          at_place (suc room) loop after.dangles (λ at. roll-RawStmt (RawStmt-F.If at e s (Some other))) ts (i ∷ c.front ++ (f.front ++ l ∷ after.front)) rest
          (p ∙ ap (λ us. i ∷ us) (c.whole ∙ ap (λ us. c.front ++ us) (f.whole ∙ ap (λ us. f.front ++ us) (g.2 ∙ ap (λ us. l ∷ us) after.whole) ∙ sym r) ∙ sym q))
          (if_else_is room loop f.dangles after.dangles i l c.front f.front after.front e s other h c.is f.is (λ d. both_ways _ (f.ends d) (ap (sees_keyword word_is.Else) g.2 ∙ sees_word word_is.Else l g.1 g.3)) g.3 after.is)
          after.ends

  while_takes : (loop : Bool) (ts : List Token) → OnRead (StmtFound (suc room) loop ts) (while_of inner ts)
  unfolding while_of
  while_takes loop ts = and_so (keyword_takes word_is.While ts) (λ _ u i. and_so (condition_takes u) (λ e v c. and_so (within true v) (λ s rest f.
      found _ rest (at_place (suc room) loop f.dangles (λ at. roll-RawStmt (RawStmt-F.While at e s)) ts (i.token ∷ c.front ++ f.front) rest
      (let p = append_assoc c.front f.front rest in cc)
      (while_is room loop f.dangles i.token c.front f.front e s i.is c.is f.is) f.ends))))

  group_takes : (loop : Bool) (ts : List Token) → OnRead (StmtFound (suc room) loop ts) (group inner loop ts)
  unfolding group
  group_takes loop ts = and_so (mark_takes mark.OpenCurly ts) (λ _ u b. and_so (stmts_takes loop u) (λ ss v f. and_so (mark_takes mark.CloseCurly v) (λ _ rest d.
      found _ rest (simple (suc room) loop (λ at. roll-RawStmt (RawStmt-F.Group at ss)) ts (b.token ∷ f.front ++ d.token ∷ []) rest
      (let p = append_assoc f.front (d.token ∷ []) rest in cc)
      (tree.group_of room loop (b.token ∷ f.front ++ d.token ∷ []) f.front b.token d.token ss refl b.is f.is d.is)))))

  case_takes : Takes (CaseBody room) (case_of inner)
  unfolding case_of
  case_takes ts = and_so (label_takes ts) (λ v u l. and_so (stmts_takes true u) (λ ss rest f. found (v, ss) rest (record {
    front = l.front ++ f.front;
    whole = l.whole ∙ ap (λ us. l.front ++ us) f.whole ∙ sym (append_assoc l.front f.front rest);
    is = case_body l.front f.front v ss l.is f.is;
  })))

  cases_takes : Takes (CasesAre room) (cases inner)
  unfolding cases
  cases_takes ts = weaker (many_takes (BehindWord word_is.Case (CaseBody room)) (behind_keyword word_is.Case (case_of inner)) (behind_word_takes word_is.Case (CaseBody room) (case_of inner) case_takes) ts) (λ xs rest f. record { front = f.front; whole = f.whole; is = of_cases room f.front xs f.is })

  colon_takes : Takes (ColonStmts room) (mark_of mark.Colon >> stmts inner true)
  colon_takes ts = and_so (mark_takes mark.Colon ts) (λ _ u c. weaker (stmts_takes true u) (λ ss rest f. record { front = c.token ∷ f.front; whole = cc; is = colon_stmts c.token f.front ss c.is f.is }))

  default_takes : Takes (DefaultIs room) (default inner)
  unfolding default
  default_takes ts = and_so (behind_word_takes word_is.Default (ColonStmts room) (mark_of mark.Colon >> stmts inner true) colon_takes ts) (λ o rest f. found (default_by inner o) rest (by o rest f))
    where
      by : (o : Option (List RawStmt)) (rest : List Token) → OnStep (BehindWord word_is.Default (ColonStmts room)) ts o rest → Front (DefaultIs room) ts (default_by inner o) rest
      by None rest e = record { front = []; whole = e; is = tree.no_default room }
      by (Some ss) rest f = record { front = f.front; whole = f.whole; is = default_is room f.front ss f.is }

  switch_takes : (loop : Bool) (ts : List Token) → OnRead (StmtFound (suc room) loop ts) (switch_of inner ts)
  unfolding switch_of
  switch_takes loop ts = and_so (keyword_takes word_is.Switch ts) (λ _ u w. and_so (condition_takes u) (λ e v c. and_so (mark_takes mark.OpenCurly v) (λ _ x b. and_so (cases_takes x) (λ xs y f. and_so (default_takes y) (λ last z g. and_so (mark_takes mark.CloseCurly z) (λ _ rest d.
      found _ rest (simple (suc room) loop (λ at. roll-RawStmt (RawStmt-F.Switch at e xs last)) ts (w.token ∷ c.front ++ b.token ∷ (f.front ++ (g.front ++ d.token ∷ []))) rest
      (let p = append_assoc c.front (b.token ∷ (f.front ++ (g.front ++ d.token ∷ []))) rest in let q = append_assoc f.front (g.front ++ d.token ∷ []) rest in let r = append_assoc g.front (d.token ∷ []) rest in cc)
      (switch_is room loop w.token b.token d.token c.front f.front g.front e xs last w.is c.is b.is f.is g.is d.is))))))))

  stmt_found : (loop : Bool) (x : Lexeme) (ts : List Token) → OnRead (StmtFound (suc room) loop ts) (stmt_by inner loop (Some x) ts)
  stmt_found loop (lexeme.Keyword word_is.If) ts = if_takes loop ts
  stmt_found loop (lexeme.Keyword word_is.While) ts = while_takes loop ts
  stmt_found loop (lexeme.Keyword word_is.Switch) ts = switch_takes loop ts
  stmt_found loop (lexeme.Keyword word_is.Return) ts = return_takes room loop ts
  stmt_found loop (lexeme.Keyword word_is.Exit) ts = exit_takes room loop ts
  stmt_found loop (lexeme.Keyword word_is.Drop) ts = drop_takes room loop ts
  stmt_found true (lexeme.Keyword word_is.Break) ts = break_takes room ts
  stmt_found false (lexeme.Keyword word_is.Break) ts = nothing
  stmt_found loop (lexeme.Mark mark.OpenCurly) ts = group_takes loop ts
  stmt_found loop (lexeme.Mark mark.Semicolon) ts = empty_takes room loop ts
  stmt_found loop (lexeme.Variable v) ts = assignment_takes room loop ts
  stmt_found loop _ ts = call_alone_takes room loop ts

  stmt_over_takes : (loop : Bool) (ts : List Token) → OnRead (StmtFound (suc room) loop ts) (stmt_over inner loop ts)
  unfolding stmt_over first
  stmt_over_takes loop [] = call_alone_takes room loop []
  stmt_over_takes loop (t ∷ ts) = stmt_found loop t.lexeme (t ∷ ts)

stmt_takes : (room : ℕ) (loop : Bool) (ts : List Token) → OnRead (StmtFound room loop ts) (stmt room loop ts)
unfolding stmt
stmt_takes zero loop ts = nothing
stmt_takes (suc room) loop ts = stmt_over_takes room (stmt room) (stmt_takes room) loop ts

pub body_takes : Takes (StmtsAre 64 false) body
unfolding body
body_takes = stmts_takes 64 (stmt 64) (stmt_takes 64) false
