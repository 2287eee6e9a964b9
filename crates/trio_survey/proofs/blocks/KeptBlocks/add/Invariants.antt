use Rattle.trio_survey.proofs.Words.{◌+◌, ◌≡◌, AreNamed, GoesOn, drop, entry_seen, listed_seen, map, take, vec_len}
use Rattle.trio_survey.proofs.blocks.KeptBlocks.add.Given as goal

abbrev pub invariant-loop-listed : goal.invariant-loop-listed
invariant-loop-listed l = record {
  on : GoesOn l.fn.self l.self;
  len : vec_len l.self.entries ≡ vec_len l.fn.self.entries + l.listed-index;
  said : map (entry_seen l.self.names.names.items) (drop (vec_len l.fn.self.entries) l.self.entries.items) ≡ map listed_seen (take l.listed-index l.entries);
  named : AreNamed l.self.names.names.items (drop (vec_len l.fn.self.entries) l.self.entries.items);
}
