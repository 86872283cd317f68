use Rattle.std.proofs.Common.{◌≡◌, ◌+◌, ◌*◌, ◌≤◌, [], ◌∷◌, ◌++◌, take}
use Rattle.std.specs.List.{flat_map}
use Rattle.arrayvec.specs.ArrayString.{array_string_len}
use Rattle.text.proofs.reply.Reply.line.Given as goal

abbrev pub invariant-loop-item : goal.invariant-loop-item
invariant-loop-item g l = record {
  text : l.reply.0.bytes ≡ (l.fn.letter ∷ []) ++ flat_map g.T.Spoken.fields (take l.item-index l.items);
  size : array_string_len l.reply.0 ≤ 1 + 42 * l.item-index;
}
