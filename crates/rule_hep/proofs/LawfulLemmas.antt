-- What crates of rules cite.
pub use Rattle.rule_hep.specs.LawfulLocal.{kinds-same, wide-kinds, kinds-long, IsKept, kept-some, kept-is, lawful_local}
