use borrow.Author.Rules.{rules}
use Rattle.apr1_read.proofs.PassNeeds.{stores, store_bad, store_bad_2, store_runs, store_product, store_sum, store_more}
use Rattle.apr1_read.proofs.store_pairs.Goals as goal

pub loop-stored-init : goal.loop-stored-init
loop-stored-init c = search stores

pub returns-in_default : goal.returns-in_default
returns-in_default c = store_bad c.requires.0 c.loop-stored.invariant (search rules) c.in_default.ensures

pub returns-in_default-read_unsigned : goal.returns-in_default-read_unsigned
returns-in_default-read_unsigned c =
    store_bad_2 c.requires.0 c.loop-stored.invariant (search rules) c.in-Ok.ensures c.in_default-read_unsigned.ensures

pub fill_run-i-requires : goal.fill_run-i-requires
fill_run-i-requires c =
    store_runs c.requires.0 c.loop-stored.invariant (search rules) c.in-Ok.ensures c.in-Ok-read_unsigned.ensures

pub overflow_mul-x : goal.overflow_mul-x
overflow_mul-x c = store_product c.requires.0 c.loop-stored.invariant (search rules) c.in-Ok.ensures c.in-Ok-read_unsigned.ensures

pub overflow_add-x : goal.overflow_add-x
overflow_add-x c = store_sum c.requires.0 c.loop-stored.invariant (search rules) c.in-Ok.ensures c.in-Ok-read_unsigned.ensures

pub loop-stored-preserved : goal.loop-stored-preserved
loop-stored-preserved c =
    store_more c.requires.0 c.loop-stored.invariant (search rules) c.in-Ok.ensures c.in-Ok-read_unsigned.ensures c.fill_run-i.ensures

pub returns : goal.returns
returns c = search stores
