-- In at most k steps.
use Rattle.rig_suspects.proofs.+climbed.Given as goal

abbrev pub decreases-climbed : goal.decreases-climbed
decreases-climbed l = l.k
