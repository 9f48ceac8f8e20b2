mod RunReads
