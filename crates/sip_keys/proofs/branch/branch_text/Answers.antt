-- The text of a branch is written part by part.
use Rattle.std.proofs.Common.{◌≡◌, [], ◌++◌, length, drop, ◌∙◌, arith}
use Rattle.sip_keys.specs.Branches.{branch_text}
use Rattle.sip_keys.proofs.Written.{whole, start}
use Rattle.sip_keys.proofs.branch.branch_text.Goals as goal

all : (c : goal.After-t43-1) → (c.put.result ≡ length (branch_text c.args.epoch c.args.br)) × (c.put.new.out ≡ branch_text c.args.epoch c.args.br ++ drop c.put.result c.args.out.now)
all c =
    let a = c.put-end.ensures c.args.out.now [] (start c.args.out.now) in
    let b = c.put-end-2.ensures c.args.out.now _ a in
    let d = c.put-end-3.ensures c.args.out.now _ b in
    let e = c.put-end-4.ensures c.args.out.now _ d in
    let f = c.put-end-5.ensures c.args.out.now _ e in
    let g = c.put-end-6.ensures c.args.out.now _ f in
    let h = c.put.ensures c.args.out.now _ g in
    whole c.args.out.now c.put.new.out c.front_of.result c.as_bytes.result.now c.as_bytes-2.result.now c.as_bytes-3.result.now c.args.epoch c.args.br c.put.result
    c.front_of.ensures (c.as_bytes.ensures.value ∙ c.format.ensures.text) (c.as_bytes-2.ensures.value ∙ c.format-2.ensures.text)
    (c.as_bytes-3.ensures.value ∙ c.format-3.ensures.text)
    (omega (arith, c.as_bytes.ensures.len, c.format.ensures.fits, c.as_bytes-2.ensures.len, c.format-2.ensures.fits, c.as_bytes-3.ensures.len, c.format-3.ensures.fits))
    c.requires.room h

pub returns-clause-len : goal.returns-clause-len
returns-clause-len c = (all c).0

pub returns-clause-written : goal.returns-clause-written
returns-clause-written c = (all c).1
