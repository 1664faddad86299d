pub mod ReportLineLaws
pub mod KeyLaws
pub mod Readings
