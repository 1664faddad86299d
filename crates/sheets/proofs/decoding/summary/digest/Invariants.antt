-- `sheets::decoding::summary::digest` is safe and ends. The loop's invariant: the digest stays below 65,521. Assumes nothing.
use Rattle.std.proofs.Common.{◌≤◌}
use Rattle.sheets.proofs.decoding.summary.digest.Given as goal

abbrev pub invariant-loop-byte : goal.invariant-loop-byte
invariant-loop-byte l = l.digest ≤ 65520
