use Rattle.std.proofs.Common.{◌≡◌, take}
use Rattle.cfg_code.specs.Code.{list_code, cases_code}
use Rattle.cfg_compile.proofs.stmt.+stmts.Given as goal

abbrev pub invariant-list_text-loop-s : goal.invariant-list_text-loop-s
invariant-list_text-loop-s l = l.text ≡ list_code (take l.s-index l.block)

abbrev pub invariant-stmt_text-loop-case : goal.invariant-stmt_text-loop-case
invariant-stmt_text-loop-case l = l.texts ≡ cases_code (take l.case-index l.case-items)
