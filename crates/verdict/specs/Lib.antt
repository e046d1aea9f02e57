-- Verdicts of a class: what is asked, what the call answers, and what document 01 has it answer in class A.
pub mod Question
pub mod Call
pub mod ClassA
