mod OneReplica
