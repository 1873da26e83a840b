pub mod JoinAssociate
pub mod JoinAssociateLawful
pub mod JoinCommute
pub mod JoinCommuteLawful
pub mod JoinTypes
pub mod Meanings
