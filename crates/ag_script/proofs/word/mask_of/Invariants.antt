use Rattle.std.proofs.Common.{◌≡◌, ◌<◌, ◌^◌, drop}
use Rattle.ag_script.specs.Hex.{hex_value}
use Rattle.ag_script.proofs.word.mask_of.Given as goal

abbrev pub invariant-digits : goal.invariant-digits
invariant-digits l = record {
  so_far : hex_value l.mask (drop l.b-index l.word) ≡ hex_value 0 l.word;
  small : l.mask < 16 ^ l.b-index;
}
