mod FontLists
mod Refused
