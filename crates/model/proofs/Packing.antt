-- A packed answer comes back whole where its values, or its place, are within their bits. That every call's are is shown in `table`
-- (Returned). Assumes nothing.
use Prim.Native.Nat.{ℕ, ◌^◌, ◌≤◌, ◌<◌}
use mathlib.Core.Path.{◌≡◌, refl}
use mathlib.Core.Logic.{◌≢◌}
use native.Mathlib.Omega.{arith}
use borrow.Author.Tests.{ne_eqb}
use Rattle.model.specs.declared.refusal.Refusal.{Refusal}
use Rattle.model.specs.declared.refusal.Refusal.TheVariants.{VertexCount, EndCount, BufferLength, EndRange, MarkRange, SyndromeByte, LossByte, HandedByte, NoCorrection, TorusSide, TextLength, MalformedLine, TextBuffer, RoundCount, OpenByte, LitOpen, PlanarSide, PastLast, GameEdges, PositionByte, MoveCount, TrapEdges}
use Rattle.model.specs.Refusals.{number_of, place_of}
use Rattle.model.specs.Packing.{packed, packed_refusal, refusal_number, place_in, first_value, second_value, unpacked_refusal, unpacked}

-- The fields

no_number : (first second : ℕ) → refusal_number (packed first second) ≡ 0
no_number first second = omega arith

pub unpacked_first : (first second : ℕ) → first < 2 ^ 32 → first_value (packed first second) ≡ first
unpacked_first first second h = omega arith

pub unpacked_second : (first second : ℕ) → second < 2 ^ 24 → second_value (packed first second) ≡ second
unpacked_second first second h = omega arith

-- a refusal's number is 1 to 23, and never 5
pub numbered : (n : Refusal) → (1 ≤ number_of n) × (number_of n ≤ 23) × (number_of n ≢ 5)
numbered VertexCount = (omega arith, omega arith, λ p. omega arith)
numbered EndCount = (omega arith, omega arith, λ p. omega arith)
numbered BufferLength = (omega arith, omega arith, λ p. omega arith)
numbered (EndRange e) = (omega arith, omega arith, λ p. omega arith)
numbered (MarkRange e) = (omega arith, omega arith, λ p. omega arith)
numbered (SyndromeByte v) = (omega arith, omega arith, λ p. omega arith)
numbered (LossByte e) = (omega arith, omega arith, λ p. omega arith)
numbered (HandedByte e) = (omega arith, omega arith, λ p. omega arith)
numbered (NoCorrection v) = (omega arith, omega arith, λ p. omega arith)
numbered (TorusSide side) = (omega arith, omega arith, λ p. omega arith)
numbered TextLength = (omega arith, omega arith, λ p. omega arith)
numbered (MalformedLine line) = (omega arith, omega arith, λ p. omega arith)
numbered TextBuffer = (omega arith, omega arith, λ p. omega arith)
numbered RoundCount = (omega arith, omega arith, λ p. omega arith)
numbered (OpenByte v) = (omega arith, omega arith, λ p. omega arith)
numbered (LitOpen v) = (omega arith, omega arith, λ p. omega arith)
numbered (PlanarSide side) = (omega arith, omega arith, λ p. omega arith)
numbered (PastLast w) = (omega arith, omega arith, λ p. omega arith)
numbered GameEdges = (omega arith, omega arith, λ p. omega arith)
numbered (PositionByte e) = (omega arith, omega arith, λ p. omega arith)
numbered MoveCount = (omega arith, omega arith, λ p. omega arith)
numbered TrapEdges = (omega arith, omega arith, λ p. omega arith)

pub unpacked_number : (n : Refusal) → refusal_number (packed_refusal n) ≡ number_of n
unpacked_number n = let small = (numbered n).1 in omega arith

pub unpacked_place : (n : Refusal) → place_of n < 2 ^ 56 → place_in (packed_refusal n) ≡ place_of n
unpacked_place n h = let small = (numbered n).1 in omega arith

-- a refusal is its number and its place
by_number : (n : Refusal) → unpacked_refusal (number_of n) (place_of n) ≡ n
by_number VertexCount = refl
by_number EndCount = refl
by_number BufferLength = refl
by_number (EndRange e) = refl
by_number (MarkRange e) = refl
by_number (SyndromeByte v) = refl
by_number (LossByte e) = refl
by_number (HandedByte e) = refl
by_number (NoCorrection v) = refl
by_number (TorusSide side) = refl
by_number TextLength = refl
by_number (MalformedLine line) = refl
by_number TextBuffer = refl
by_number RoundCount = refl
by_number (OpenByte v) = refl
by_number (LitOpen v) = refl
by_number (PlanarSide side) = refl
by_number (PastLast w) = refl
by_number GameEdges = refl
by_number (PositionByte e) = refl
by_number MoveCount = refl
by_number TrapEdges = refl

-- The general law

module _ {A : Type 0} (refused : Refusal → A) (values : ℕ → ℕ → A) where
  pub unpacked_values : (first second : ℕ) → first < 2 ^ 32 → second < 2 ^ 24
      → unpacked refused values (packed first second) ≡ values first second
  unfolding unpacked
  unpacked_values first second f s =
      rw (no_number first second, unpacked_first first second f, unpacked_second first second s)

  pub unpacked_refusal_lem : (n : Refusal) → place_of n < 2 ^ 56 → unpacked refused values (packed_refusal n) ≡ refused n
  unfolding unpacked
  unpacked_refusal_lem n h =
      rw (
        unpacked_number n,
        unpacked_place n h,
        ne_eqb (number_of n) 0 (λ p. let some = (numbered n).0 in omega arith),
        by_number n,
      )
