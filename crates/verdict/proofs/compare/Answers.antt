-- The outcome follows from decoding's own. Assumes nothing.
use Rattle.verdict.proofs.VerdictAnswers.{none_compares, key_compares, judgeable}
use Rattle.verdict.proofs.compare.Goals as goal

pub returns-in-Err : goal.returns-in-Err
returns-in-Err c = none_compares _ _ _ _ _ _ c.requires c.decode.result c.decode.ensures.key _ c.in-Err.is

pub judge-requires : goal.judge-requires
judge-requires c = judgeable _ _ _ _ _ _ c.requires c.decode.result c.decode.ensures.key _ c.in_default.is

pub returns : goal.returns
returns c = key_compares _ _ _ _ _ _ c.requires c.decode.result c.decode.ensures.key _ c.in_default.is _ c.judge.ensures
