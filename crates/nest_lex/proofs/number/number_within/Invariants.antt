use Rattle.std.proofs.Common.{◌≡◌, ◌≤◌, true, take}
use Rattle.std.specs.List.{list_all}
use Rattle.nest_lex.specs.Bytes.{is_digit}
use Rattle.nest_lex.specs.Spelling.{decimal}
use Rattle.nest_lex.proofs.number.number_within.Given as goal

-- the bytes so far are digits, and say the number
abbrev pub invariant-loop-byte : goal.invariant-loop-byte
invariant-loop-byte l = record {
  digits : list_all is_digit (take l.byte-index l.bytes) ≡ true;
  said : decimal (take l.byte-index l.bytes) ≡ l.number;
  small : l.number ≤ l.most;
}
