use Rattle.cfg_parse.proofs.exprs.+unary.Given as goal

abbrev pub decreases-unary : goal.decreases-unary
decreases-unary l = l.room
