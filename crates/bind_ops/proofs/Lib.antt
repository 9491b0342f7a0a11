pub mod BindLaws
pub mod ClashLaws
pub mod EffectLaws
