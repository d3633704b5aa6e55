-- The definitions that contracts use for glyphs of variable fonts.
pub mod Places
pub mod Glyphs
pub mod OneRun
pub mod Nearness
pub mod Fitting
pub mod Drawn
pub mod GlyphDrawings
