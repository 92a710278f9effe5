mod PieceLemmas
mod FrontLemmas
mod Beginnings
mod Agreeing
mod Judging
mod WholeLogs
mod OneVerdict
mod SomeVerdict
