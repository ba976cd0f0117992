use Rattle.std.proofs.Common.{◌≡◌, ◌-◌, ◌≤◌, ℕ, length, max}
use Rattle.cell_patches.specs.parts.Passes.{patch_at_index_or_unread}
use Rattle.cell_patches.proofs.read_rows.extend_patch_list.Given as goal

abbrev pub invariant-loop-patches : goal.invariant-loop-patches
invariant-loop-patches l = record {
  same : (k : ℕ) → patch_at_index_or_unread l.patches.items k ≡ patch_at_index_or_unread l.fn.patches.items k;
  most : length l.patches.items ≤ max (length l.fn.patches.items) l.count;
  least : length l.fn.patches.items ≤ length l.patches.items;
}

abbrev pub decreases-loop-patches : goal.decreases-loop-patches
decreases-loop-patches l = l.count - length l.patches.items
