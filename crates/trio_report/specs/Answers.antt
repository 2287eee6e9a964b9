-- The answers of a script's lines, as text.
use Rattle.std.specs.Prelude.{ℕ, ◌+◌, ◌/◌, ◌%◌, nat_lt, List, [], ◌∷◌, ◌++◌, if◌then◌else◌, codes}
use Rattle.std.specs.List.{flat_map}
use Rattle.std.specs.Fmt.{decimal}
use Rattle.trio_report.specs.Replies.{reply_text}
use Rattle.trio_report.specs.declared.answer.LineAnswer.{LineAnswer}
use Rattle.trio_report.specs.declared.answer.LineAnswer.TheVariants.{Granted, GrantedHold, NotLive, Denied, NoParent, Busy, Allotted, NoPages, NoInodes, Poked, Seen, GivenBack, Accepted, Refused, NotClosed, Absent, ModeSet, NotOwner, BadMode, Replied, Settled}

-- a number that isn't the first of its list
abbrev pub after_comma : ℕ → List ℕ
after_comma n = codes "," ++ decimal n

-- a list of numbers: they are joined by commas, and `-` says that there is none
abbrev pub numbers_text : List ℕ → List ℕ
numbers_text [] = codes "-"
numbers_text (n ∷ ns) = decimal n ++ flat_map after_comma ns

-- the words for a refusal name its rule
abbrev pub refused_text : ℕ → List ℕ
refused_text rule = codes "refused I" ++ decimal rule

-- the words for a settle say how many calls it handed in
abbrev pub settled_text : ℕ → List ℕ
settled_text count = codes "settled " ++ decimal count

-- a lower-case hexadecimal digit, 0 (48) to 9 and a (97) to f
abbrev pub hex_digit : ℕ → ℕ
hex_digit n = if nat_lt n 10 then 48 + n else 87 + n

-- a byte as two digits, the higher first
abbrev pub hex_byte : ℕ → List ℕ
hex_byte b = hex_digit (b / 16) ∷ hex_digit (b % 16) ∷ []

-- bytes, two digits each
abbrev pub hex_text : List ℕ → List ℕ
hex_text bytes = flat_map hex_byte bytes

-- the words for what a line is answered
abbrev pub answer_text : LineAnswer → List ℕ
answer_text Granted = codes "granted"
answer_text (GrantedHold children) = codes "granted children " ++ decimal children
answer_text NotLive = codes "notlive"
answer_text (Denied ino) = codes "denied " ++ decimal ino
answer_text NoParent = codes "noparent"
answer_text Busy = codes "busy"
answer_text (Allotted pages inodes) = codes "allotted " ++ numbers_text pages ++ codes " " ++ numbers_text inodes
answer_text (NoPages wanted free) = codes "nopages " ++ decimal wanted ++ codes " " ++ decimal free
answer_text (NoInodes wanted free) = codes "noinodes " ++ decimal wanted ++ codes " " ++ decimal free
answer_text Poked = codes "poked"
answer_text (Seen bytes) = hex_text bytes
answer_text GivenBack = codes "ok"
answer_text Accepted = codes "accepted"
answer_text (Refused rule) = refused_text rule
answer_text (NotClosed ino) = codes "notclosed " ++ decimal ino
answer_text Absent = codes "absent"
answer_text ModeSet = codes "ok"
answer_text NotOwner = codes "notowner"
answer_text BadMode = codes "badmode"
answer_text (Replied reply) = reply_text reply
answer_text (Settled count) = settled_text count

-- the line that says what the line of this number is answered
abbrev pub answer_line : ℕ → LineAnswer → List ℕ
answer_line number answer = decimal number ++ codes " " ++ answer_text answer ++ codes "\n"
