mod Naming
mod Repeating
mod RepetitionRows
