-- F10: "a definition gives this paper's number and values for each of its cases": the rows of document 01, 'When the desk
-- says no', by the names that the code has for them. Assumes nothing.
use Rattle.std.specs.Prelude.{ℕ}
use Rattle.formula.specs.declared.reasons.Reason.{Reason}
use Rattle.formula.specs.declared.reasons.Reason.TheVariants.{LongText, ProblemLine, Sizes, ClauseRoom, Word, Literal, ClauseCount, TargetLine, PermutationLine, Formula}
use Rattle.formula.specs.declared.reasons.Reason.TheVariants.{Permutation, Symmetry, NoSlot, CertificateFile, CertificateSizes, CertificatePoints, CertificateNumbers, CertificateFlips, OutputRoom}

-- the number of a row
abbrev pub code_of : Reason → ℕ
code_of LongText = 1
code_of ProblemLine = 2
code_of Sizes = 3
code_of ClauseRoom = 4
code_of Word = 5
code_of Literal = 6
code_of ClauseCount = 7
code_of TargetLine = 8
code_of PermutationLine = 9
code_of Formula = 10
code_of Permutation = 11
code_of Symmetry = 12
code_of NoSlot = 13
code_of CertificateFile = 14
code_of CertificateSizes = 15
code_of CertificatePoints = 16
code_of CertificateNumbers = 17
code_of CertificateFlips = 18
code_of OutputRoom = 19
