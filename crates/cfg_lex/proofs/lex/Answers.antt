use Rattle.cfg_lex.proofs.Walk.{whole_of, refused_of}
use Rattle.cfg_lex.proofs.lex.Goals as goal

pub returns-clause-whole : goal.returns-clause-whole
returns-clause-whole c = λ ts h. whole_of c.args.text.now ts c.tokens_in.result (λ v. v.items) c.tokens_in.ensures.found c.tokens_in.ensures.fault h

pub returns-clause-refused : goal.returns-clause-refused
returns-clause-refused c = λ kind at h. refused_of c.args.text.now kind at c.tokens_in.result (λ v. v.items) c.tokens_in.ensures.found c.tokens_in.ensures.fault h
