mod Advancing
mod Drawing
mod Naming
mod Refusing
mod Weighing
