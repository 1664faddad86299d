pub mod FlipLaws
pub mod SpanLaws
pub mod CutLaws
pub mod PeelLaws
pub mod PeelLoop
