pub use Rattle.postscript_base.specs.Error
pub use Rattle.postscript_base.specs.Refusal
pub use Rattle.postscript_base.specs.RefusalOf
pub use Rattle.postscript_base.specs.Tape
pub use Rattle.postscript_compact1.specs.FontSet
pub use Rattle.postscript_compact1.specs.Computed
pub use Rattle.postscript_type2.specs.Program
