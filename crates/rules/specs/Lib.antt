-- Documents 01 ("Shade nets: tables, groups and settled trees") and 02 (the requests K1 to K14) as definitions that compute, in the documents' own
-- order. Each definition's comment quotes the sentence that it states, or says what the definition is for.
-- `Lists`, `Text` and `Limits` are shared. `Sheets` says what a sheet is, `Groups` what classes and marks are, `Nets` what a net and its value are
-- and which nets are chosen, `Calls` what each call answers and leaves in every buffer. `Cases` computes examples: the documents' own, one list for
-- each request, every refusal, and what is judged first. `Evaluation` lets all of it compute. Assumes nothing.
-- Two files have theorems in proofs/ too, under the same file names: those that rest on a definition which a must-fail edit changes.
pub mod Calls
pub mod Cases
pub mod Evaluation
pub mod Groups
pub mod Limits
pub mod Lists
pub mod Nets
pub mod Sheets
pub mod Text
